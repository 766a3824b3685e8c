use Rattle.std.proofs.{Common.{arith, ap, ◌∙◌, w64, SFits, rules}, lemmas.Int.{to_z-of_z}}
use Rattle.basics.specs.SignedLaws.{signed}
use Rattle.tz_ever.specs.{Recurrences.{comes_again}, ZoneShown.{zone_set_of}}
use Rattle.tz_ever.proofs.{TableLemmas.{later_of, place_by, place_kept, starts_first, starts_some}, UnrolledShows.{set_climbs}}
use Rattle.tz_ever.proofs.table.ZoneTable.later_place.Goals as goal

pub overflow_sub-count : goal.overflow_sub-count
overflow_sub-count c =
    omega (arith, starts_first c.args.self.now (ap comes_again c.requires.later))

pub nonzero_rem-result : goal.nonzero_rem-result
nonzero_rem-result c =
    omega (arith, starts_some c.args.self.now c.args.index c.requires.later c.if-index-self.false c.requires.within)

pub overflow_add-result : goal.overflow_add-result
overflow_add-result c =
    omega (arith, starts_some c.args.self.now c.args.index c.requires.later c.if-index-self.false c.requires.within)

pub nonzero_div-past : goal.nonzero_div-past
nonzero_div-past c =
    omega (arith, starts_some c.args.self.now c.args.index c.requires.later c.if-index-self.false c.requires.within)

pub cycles-requires : goal.cycles-requires
cycles-requires c =
    let few = (later_of c.args.self.now c.args.index c.requires.later c.if-index-self.false c.requires.within).few in
    omega (arith, few)

pub returns-then-index-self-clause-place : goal.returns-then-index-self-clause-place
returns-then-index-self-clause-place c =
    let table = c.args.self.now in
    let set = zone_set_of table.set.now in
    place_kept set.others (set_climbs set table.set.now.accepted) c.args.index
    (omega (arith, table.ends (ap comes_again c.requires.later), c.if-index-self.true))

pub returns-else-index-self-clause-place : goal.returns-else-index-self-clause-place
returns-else-index-self-clause-place c =
    let fits : SFits w64 c.cycles.result = search rules in
    place_by _ _ _ _ _ _ (to_z-of_z w64 _ fits ∙ c.cycles.ensures)
    (later_of c.args.self.now c.args.index c.requires.later c.if-index-self.false c.requires.within).place

pub returns-else-index-self-clause-greatest : goal.returns-else-index-self-clause-greatest
returns-else-index-self-clause-greatest c =
    let fits : SFits w64 c.cycles.result = search rules in
    let few = (later_of c.args.self.now c.args.index c.requires.later c.if-index-self.false c.requires.within).few in
    omega (arith, signed, to_z-of_z w64 _ fits, c.cycles.ensures, few)
