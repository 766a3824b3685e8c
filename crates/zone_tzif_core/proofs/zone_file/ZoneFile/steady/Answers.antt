use Rattle.std.proofs.{Common.{◌<◌, ◌∙◌, ℤ, ℕ, [], refl, sym, ap, length, arith, rules, w32, to_z, of_z, FitsSigned}, lemmas.Int.{to_z-of_z}, lemmas.Result.{IfOk-weaker}}
use Rattle.zone_tzif_core.{specs.Shown.{record_shown}, specs.Stored.{IsStored}, specs.declared.stored.Stored.{Stored}, proofs.FileLemmas.{none_yet, steady_is, whole_kept}, proofs.NameLemmas.{grown_by}}
use Rattle.zone_tzif_core.proofs.zone_file.ZoneFile.steady.Goals as goal

pub zone_file-requires-clause-kept : goal.zone_file-requires-clause-kept
zone_file-requires-clause-kept c =
    let names = c.as_bytes.result.now in
    let kind : Stored = record { utoff = to_z w32 (of_z w32 c.args.kind.now.utoff); is_dst = c.args.kind.now.is_dst; from = 0; length = length c.args.kind.now.name.now } in
    grown_by (IsStored names) [] c.in_ok-kinds.kinds.items kind c.in_ok-kinds.ensures.items (none_yet (IsStored names) [] refl)
    (whole_kept names names kind refl c.as_bytes.ensures.utf8 refl (ap length (sym c.as_bytes.ensures.value)))

pub zone_file-requires-clause-some : goal.zone_file-requires-clause-some
zone_file-requires-clause-some c = omega (arith, ap length c.in_ok-kinds.ensures.items)

pub zone_file-requires-clause-numbered : goal.zone_file-requires-clause-numbered
zone_file-requires-clause-numbered c = none_yet (λ (change : ℤ × ℕ). change.1 < length c.in_ok-kinds.kinds.items) c.new.result.items c.new.ensures.items

pub returns : goal.returns
returns c =
    let fits : FitsSigned w32 c.args.kind.now.utoff = search rules in
    let kind : Stored = record { utoff = to_z w32 (of_z w32 c.args.kind.now.utoff); is_dst = c.args.kind.now.is_dst; from = 0; length = length c.args.kind.now.name.now } in
    IfOk-weaker c.zone_file.result _ _
    (λ file is. is ∙ steady_is (record_shown c.args.kind.now) kind c.in_ok-kinds.kinds.items c.new.result.items c.as_bytes.result.now c.args.footer.now
    c.in_ok-kinds.ensures.items c.new.ensures.items c.as_bytes.ensures.value (to_z-of_z w32 _ fits) refl refl refl)
    c.zone_file.ensures
