use Rattle.std.proofs.{Common.{◌∙◌, ap, sym, ℤ}, lemmas.Simd.{map-map}}
use Rattle.zone_tzif_core.specs.{ZoneFiles.{change_with, kinds_kept}, Zones.{KindValue, go_up, rises}}
use Rattle.tz_tzif.proofs.accept.times_rise.Goals as goal

pub returns : goal.returns
returns c =
    let kinds = kinds_kept c.args.zone.now in
    c.do_rise.ensures ∙ ap go_up (sym (map-map (λ (shift : ℤ × KindValue). shift.0) (change_with kinds) c.changes.result.now)) ∙ ap rises c.changes.ensures
