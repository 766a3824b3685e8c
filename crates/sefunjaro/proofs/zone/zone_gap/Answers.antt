use Rattle.std.proofs.Common.{◌≡◌, length, sym, subst}
use Rattle.tz_ever.specs.{Asked.{asked_recurrence, asked_set}, Recurrences.{zone_total}, ZoneShown.{recurrence_of, zone_set_of}}
use Rattle.tz_lookup.specs.InForce.{all_in_force}
use Rattle.sefunjaro.{specs.GapPlaces.{HoldsSeconds}, proofs.GapLemmas.{never_read}}
use Rattle.sefunjaro.proofs.zone.zone_gap.Goals as goal

pub near_gap-requires : goal.near_gap-requires
unfolding HoldsSeconds
near_gap-requires c = c.zone_holds_in_seconds.ensures (recurrence_of c.args.zone.now) (zone_set_of c.args.zone.now)

pub find_gap-requires-clause-never : goal.find_gap-requires-clause-never
find_gap-requires-clause-never c =
    let x = c.args.local.now in
    let zone = c.args.zone.now in
    let totals : zone_total (asked_recurrence c.new.result) (asked_set c.new.result) ≡ zone_total (recurrence_of zone) (zone_set_of zone) =
    λ i. zone_total (c.new.ensures.recurrence i) (c.new.ensures.set i) in
    never_read (zone_total (asked_recurrence c.new.result) (asked_set c.new.result)) x c.new.result.range
    (subst (λ f. length (all_in_force f x) ≡ 0) (sym totals) c.requires)

pub find_gap-requires-clause-seconds : goal.find_gap-requires-clause-seconds
unfolding HoldsSeconds
find_gap-requires-clause-seconds c = c.zone_holds_in_seconds.ensures (asked_recurrence c.new.result) (asked_set c.new.result)
