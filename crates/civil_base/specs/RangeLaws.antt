-- The ranges by their numbers.
use Rattle.std.{specs.Prelude.{ℤ, ◌≤◌, ◌*◌, pos, neg_ℤ, ◌≤ℤ◌, ◌<ℤ◌, int_le, unsigned_abs}, proofs.Common.{arith}, proofs.lemmas.Bool.{and_from, and_parts, leb-true}, proofs.lemmas.Bool.Decides.{nat_tests}}
use Rattle.basics.specs.{ComparisonLaws.{le_pass, lt_pass, le_from_pass, lt_from_pass}, SignedLaws.{signed, signed_casts, one_sided}}
use Rattle.civil_base.specs.Ranges.{first_time, end_of_times, IsInYears, IsOffset, greatest_offset, far_seconds}

-- a local time in the years lies between -9999-01-01 00:00 and the end of 9999-12-31
pub years_begin : (x : ℤ) → IsInYears x → neg_ℤ (pos 377705116800000000000) ≤ℤ x
years_begin x h = le_from_pass first_time x (and_parts (int_le first_time x) _ h).0

pub years_end : (x : ℤ) → IsInYears x → x <ℤ pos 253402300800000000000
years_end x h = lt_from_pass x end_of_times (and_parts (int_le first_time x) _ h).1

-- and is a near instant
pub years_near : (x : ℤ) → IsInYears x → unsigned_abs x ≤ far_seconds * 1000000000
years_near x h = omega (arith, signed, one_sided x, years_begin x h, years_end x h)

-- and each that lies there is in the years
pub years_between : (x : ℤ) → neg_ℤ (pos 377705116800000000000) ≤ℤ x → x <ℤ pos 253402300800000000000 → IsInYears x
years_between x low high = and_from _ _ (le_pass first_time x low) (lt_pass x end_of_times high)

pub offset_size : (o : ℤ) → IsOffset o → unsigned_abs o ≤ greatest_offset
offset_size o h = leb-true _ _ h

pub offset_by_size : (o : ℤ) → unsigned_abs o ≤ greatest_offset → IsOffset o
offset_by_size o h = grind (arith, nat_tests)

pub offset_least : (o : ℤ) → IsOffset o → neg_ℤ (pos greatest_offset) ≤ℤ o
offset_least o h = omega (arith, signed, offset_size o h)

pub offset_greatest : (o : ℤ) → IsOffset o → o ≤ℤ pos greatest_offset
offset_greatest o h = omega (arith, signed, offset_size o h)

-- what the ranges say, for `grind`, with what signs and casts take
pub ruleset ranges = (signed_casts, years_begin, years_end, offset_least, offset_greatest)
