use Rattle.std.proofs.{Common.{Some, refl, ap, ◌∙◌, rules, FitsSigned, w32}, lemmas.Int.{to_z-of_z}}
use Rattle.zone_tzif_core.{specs.Shown.{record_shown}, proofs.FileLemmas.{stored_is}}
use Rattle.zone_tzif_core.proofs.file_reader.stored.Goals as goal

pub returns-clause-told : goal.returns-clause-told
returns-clause-told c =
    let fits : FitsSigned w32 c.in_ok-record.record.utoff = search rules in
    ap Some (stored_is c.args.names.now c.args.bytes.now (record_shown c.in_ok-record.record) _ c.in_ok-record.ensures (to_z-of_z w32 _ fits) refl refl refl).0
    ∙ c.in_ok-record.ensures

pub returns-clause-kept : goal.returns-clause-kept
returns-clause-kept c =
    let fits : FitsSigned w32 c.in_ok-record.record.utoff = search rules in
    (stored_is c.args.names.now c.args.bytes.now (record_shown c.in_ok-record.record) _ c.in_ok-record.ensures (to_z-of_z w32 _ fits) refl refl refl).1
