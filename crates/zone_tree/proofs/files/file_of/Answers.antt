use Rattle.std.proofs.Common.{◌≡◌, Ok, IfOk, IfErr, sym, subst}
use Rattle.tz_lookup.specs.Compiles.{compiled_in}
use Rattle.zone_tree.{specs.ArchiveEntries.{of_file}, specs.Told.{IsWhy}, proofs.EntryLemmas.{content_is}}
use Rattle.zone_tree.proofs.files.file_of.Goals as goal

pub returns-in-Ok-clause-ok : goal.returns-in-Ok-clause-ok
returns-in-Ok-clause-ok c =
    subst (λ found. IfOk c.file_of_set.result (λ file. found ≡ Ok (of_file file.items)))
    (sym (content_is c.args.name.now (compiled_in c.args.table.now c.args.name.now) c.in-Ok.set
    (record { is_named = c.in-Ok.ensures.ok.0; spans = c.in-Ok.ensures.ok.1; small = c.in-Ok.ensures.accepted.range })))
    c.file_of_set.ensures.ok

pub returns-in-Ok-clause-err : goal.returns-in-Ok-clause-err
returns-in-Ok-clause-err c =
    subst (λ found. IfErr c.file_of_set.result (IsWhy found))
    (sym (content_is c.args.name.now (compiled_in c.args.table.now c.args.name.now) c.in-Ok.set
    (record { is_named = c.in-Ok.ensures.ok.0; spans = c.in-Ok.ensures.ok.1; small = c.in-Ok.ensures.accepted.range })))
    c.file_of_set.ensures.err
