use Rattle.std.proofs.{Common.{ℤ, to_z-of_z, sym, subst}, lemmas.Bool.{and_from}}
use Rattle.civil_base.specs.{Instants.{local_at, nanos_of}, Ranges.{IsInYears, IsOffset}}
use Rattle.tz_ever.specs.ZoneShown.{zone_in_range}
use Rattle.sefunjaro.specs.Zones.{kept_total}
use Rattle.sefunjaro.proofs.shown.is_shown.Goals as goal

pub returns-then-is_inside : goal.returns-then-is_inside
returns-then-is_inside c =
    let t = nanos_of c.args.second in
    let inside = subst (λ s. IsInYears (nanos_of s) × ((offset : ℤ) → IsOffset offset → IsInYears (local_at (nanos_of s) offset))) (to_z-of_z c.ranges.second)
    (c.is_inside.ensures c.if-is_inside.true) in
    sym (and_from _ _ inside.0 (inside.1 (kept_total c.args.zone.now t) (zone_in_range c.args.zone.now t)))
