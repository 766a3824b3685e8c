use Rattle.std.proofs.Common.{sym, ◌∙◌, subst, length, ◌<◌}
use Rattle.tz_ever.specs.{Unrolled.{told}, ZoneShown.{zone_set_of}, declared.recurrence.Recurrence.TheVariants.{Never, Later, Always}}
use Rattle.tz_ever.proofs.TableLemmas.{place_in, place_itself}
use Rattle.tz_ever.proofs.table.ZoneTable.place.Goals as goal

pub returns-in-Never-clause-place : goal.returns-in-Never-clause-place
returns-in-Never-clause-place c =
    let table = c.args.self.now in
    let set = zone_set_of table.set.now in
    let never = sym c.recurrence.ensures ∙ c.in-Never.is in
    place_in table Never c.args.index c.args.index _ never
    (place_itself set c.args.index (subst (λ r. c.args.index < length (told r set).others) never c.requires))

pub returns-in-Later-clause-place : goal.returns-in-Later-clause-place
returns-in-Later-clause-place c =
    place_in c.args.self.now Later c.args.index _ _ (sym c.recurrence.ensures ∙ c.in-Later.is) c.later_place.ensures.place

pub returns-in-Always-clause-place : goal.returns-in-Always-clause-place
returns-in-Always-clause-place c =
    place_in c.args.self.now Always c.args.index _ _ (sym c.recurrence.ensures ∙ c.in-Always.is) c.repeated_place.ensures.place

pub later_place-requires-clause-within : goal.later_place-requires-clause-within
later_place-requires-clause-within c =
    subst (λ r. c.args.index < length (told r (zone_set_of c.args.self.now.set.now)).others) (sym c.recurrence.ensures ∙ c.in-Later.is) c.requires

pub repeated_place-requires-clause-within : goal.repeated_place-requires-clause-within
repeated_place-requires-clause-within c =
    subst (λ r. c.args.index < length (told r (zone_set_of c.args.self.now.set.now)).others) (sym c.recurrence.ensures ∙ c.in-Always.is) c.requires
