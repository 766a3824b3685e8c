use Rattle.std.proofs.Common.{◌≡◌, pos, ◌-ℤ◌, to_z, of_z, arith, ap, ◌∙◌, w64}
use Rattle.basics.specs.SignedLaws.{signed, signed_casts}
use Rattle.tz_ever.specs.Recurrences.{comes_again}
use Rattle.tz_ever.proofs.TableLemmas.{place_by, repeated_of, repeats_some, starts_first}
use Rattle.tz_ever.proofs.table.ZoneTable.repeated_place.Goals as goal

pub overflow_sub-count : goal.overflow_sub-count
overflow_sub-count c =
    omega (arith, starts_first c.args.self.now (ap comes_again c.requires.always))

pub nonzero_rem-result : goal.nonzero_rem-result
nonzero_rem-result c =
    omega (arith, repeats_some c.args.self.now c.args.index c.requires.always c.requires.within)

pub overflow_add-result : goal.overflow_add-result
overflow_add-result c =
    omega (arith, repeats_some c.args.self.now c.args.index c.requires.always c.requires.within)

pub nonzero_div-index : goal.nonzero_div-index
nonzero_div-index c =
    omega (arith, repeats_some c.args.self.now c.args.index c.requires.always c.requires.within)

pub cycles-requires : goal.cycles-requires
cycles-requires c =
    let few = (repeated_of c.args.self.now c.args.index c.requires.always c.requires.within).few in
    omega (arith, few)

pub returns-clause-place : goal.returns-clause-place
returns-clause-place c =
    let few = (repeated_of c.args.self.now c.args.index c.requires.always c.requires.within).few in
    let cycles = c.cycles.ensures in
    let moved : to_z w64 (of_z w64 (to_z w64 (of_z w64 c.cycles.result) -ℤ pos 391306204800)) ≡ c.cycles.result -ℤ pos 391306204800 =
    omega (arith, signed_casts, cycles, few) in
    place_by _ _ _ _ _ _ (moved ∙ ap (λ s. s -ℤ pos 391306204800) cycles)
    (repeated_of c.args.self.now c.args.index c.requires.always c.requires.within).place

pub returns-clause-greatest : goal.returns-clause-greatest
returns-clause-greatest c =
    let few = (repeated_of c.args.self.now c.args.index c.requires.always c.requires.within).few in
    let cycles = c.cycles.ensures in
    let moved : to_z w64 (of_z w64 (to_z w64 (of_z w64 c.cycles.result) -ℤ pos 391306204800)) ≡ c.cycles.result -ℤ pos 391306204800 =
    omega (arith, signed_casts, cycles, few) in
    omega (arith, signed, moved, cycles, few)
