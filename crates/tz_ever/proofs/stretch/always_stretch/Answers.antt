use Rattle.std.proofs.{Common.{◌≡◌, pos, ◌+ℤ◌, ◌-ℤ◌, to_z, of_z, SFits, rules, w32, w64, ap, ◌∙◌, arith}, lemmas.Int.{to_z-of_z}}
use Rattle.basics.specs.SignedLaws.{signed_casts}
use Rattle.tz_ever.{specs.{Stretches.{cycle_begin, ever_end}, ZoneShown.{zone_set_of}}, proofs.StretchLemmas.{always_stretch}}
use Rattle.tz_ever.proofs.stretch.always_stretch.Goals as goal

pub returns-clause-is : goal.returns-clause-is
returns-clause-is c =
    let early = c.requires.early in
    let far = c.requires.far in
    let found = c.later_stretch-found.result in
    let from_fits : SFits w64 found.from = search rules in
    let until_fits : SFits w64 found.until = search rules in
    let offset_fits : SFits w32 found.offset = search rules in
    let low = c.later_stretch-found.ensures.low in
    let lasts = c.later_stretch-found.ensures.lasts in
    let there : to_z w64 (of_z w64 (to_z w64 (of_z w64 c.args.second) +ℤ pos 391306204800)) ≡ c.args.second +ℤ pos 391306204800 =
    omega (arith, signed_casts, early, far) in
    let from : to_z w64 (of_z w64 (to_z w64 (of_z w64 found.from) -ℤ pos 391306204800)) ≡ found.from -ℤ pos 391306204800 =
    omega (arith, signed_casts, low, from_fits) in
    let until : to_z w64 (of_z w64 (to_z w64 (of_z w64 found.until) -ℤ pos 391306204800)) ≡ found.until -ℤ pos 391306204800 =
    omega (arith, signed_casts, lasts, there, early, until_fits) in
    always_stretch (zone_set_of c.args.zone.now) c.args.second _ found _ there c.later_stretch-found.ensures.is from until (to_z-of_z w32 _ offset_fits)

pub returns-clause-from : goal.returns-clause-from
returns-clause-from c =
    let early = c.requires.early in
    let far = c.requires.far in
    let found = c.later_stretch-found.result in
    let from_fits : SFits w64 found.from = search rules in
    let low = c.later_stretch-found.ensures.low in
    let there : to_z w64 (of_z w64 (to_z w64 (of_z w64 c.args.second) +ℤ pos 391306204800)) ≡ c.args.second +ℤ pos 391306204800 =
    omega (arith, signed_casts, early, far) in
    let from : to_z w64 (of_z w64 (to_z w64 (of_z w64 found.from) -ℤ pos 391306204800)) ≡ found.from -ℤ pos 391306204800 =
    omega (arith, signed_casts, low, from_fits) in
    from ∙ ap (λ s. s -ℤ pos 391306204800) (c.later_stretch-found.ensures.begin ∙ ap (cycle_begin (zone_set_of c.args.zone.now)) there)

pub returns-clause-until : goal.returns-clause-until
returns-clause-until c =
    let early = c.requires.early in
    let far = c.requires.far in
    let found = c.later_stretch-found.result in
    let until_fits : SFits w64 found.until = search rules in
    let lasts = c.later_stretch-found.ensures.lasts in
    let there : to_z w64 (of_z w64 (to_z w64 (of_z w64 c.args.second) +ℤ pos 391306204800)) ≡ c.args.second +ℤ pos 391306204800 =
    omega (arith, signed_casts, early, far) in
    let until : to_z w64 (of_z w64 (to_z w64 (of_z w64 found.until) -ℤ pos 391306204800)) ≡ found.until -ℤ pos 391306204800 =
    omega (arith, signed_casts, lasts, there, early, until_fits) in
    until ∙ ap (λ s. s -ℤ pos 391306204800) (c.later_stretch-found.ensures.until ∙ ap (ever_end (zone_set_of c.args.zone.now)) there)
