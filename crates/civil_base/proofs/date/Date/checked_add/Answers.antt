use Rattle.std.proofs.Common.{arith, w32, ◌≡◌, ◌≤◌, ℤ, ◌+ℤ◌, to_z, of_z, w64, unsigned_abs}
use Rattle.basics.specs.SignedLaws.{signed_casts, one_sided}
use Rattle.civil_base.specs.Ranges.{IsDay}
use Rattle.civil_base.proofs.date.Date.checked_add.Goals as goal

moved : (k a d x y : ℤ) → IsDay k → a ≡ to_z w32 (of_z w32 k) → unsigned_abs d ≤ 106751991167300 → k ≡ x → d ≡ y
    → to_z w64 (of_z w64 (to_z w64 (of_z w64 a) +ℤ to_z w64 (of_z w64 d))) ≡ x +ℤ y
moved k a d x y h e small is by = omega (arith, signed_casts, one_sided d)

pub returns-clause-has : goal.returns-clause-has
returns-clause-has c =
    let day = c.day_number.ensures in
    rw (moved _ _ _ _ _ day.bound c.from.ensures c.whole_days.ensures.bound day.value c.whole_days.ensures.value) at c.with_day.ensures.has
