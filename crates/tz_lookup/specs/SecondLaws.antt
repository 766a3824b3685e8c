-- The whole second of an instant, and the total in force at an instant as that at its second.
use Rattle.std.proofs.{Common.{◌≡◌, Bool, true, false, filter, ℤ, pos, negsuc, ◌+ℤ◌, ◌-ℤ◌, ◌*ℤ◌, ◌≤ℤ◌, ◌<ℤ◌, int_le, refl, arith}, lemmas.Int.{ints}}
use Rattle.basics.specs.ComparisonLaws.{le_pass, le_fail, le_from_pass, le_from_fail}
use Rattle.civil_base.specs.Instants.{instant_at, seconds_of}
use Rattle.zone_spans.specs.Schedules.{Schedule, last_total, total_at}
use Rattle.tz_lookup.specs.Spans.{total_from}

pub record IsSecond (t s : ℤ) : Type 0 where
  pub low : (pos 1000000000 *ℤ s) ≤ℤ t
  pub high : t <ℤ ((pos 1000000000 *ℤ s) +ℤ pos 1000000000)

pub second_is : (t : ℤ) → IsSecond t (seconds_of t)
unfolding seconds_of
second_is (pos n) = record { low = omega (arith, ints); high = omega (arith, ints) }
second_is (negsuc n) = record { low = omega (arith, ints); high = omega (arith, ints) }

pub one_second : (t s u : ℤ) → IsSecond t s → IsSecond t u → s ≡ u
one_second t s u h k = omega (arith, ints, h.low, h.high, k.low, k.high)

pub moved_second : (x s o : ℤ) → IsSecond x s → IsSecond (instant_at x o) (s -ℤ o)
moved_second x s o h = record { low = omega (arith, ints, h.low); high = omega (arith, ints, h.high) }

pub seconds_of-instant_at : (x o : ℤ) → seconds_of (instant_at x o) ≡ seconds_of x -ℤ o
seconds_of-instant_at x o = one_second _ _ _ (second_is (instant_at x o)) (moved_second x (seconds_of x) o (second_is x))

begun : (a t s : ℤ) → IsSecond t s → a ≤ℤ s → (a *ℤ pos 1000000000) ≤ℤ t
begun a t s h l = omega (arith, ints, h.low, h.high)

not_begun : (a t s : ℤ) → IsSecond t s → s <ℤ a → t <ℤ (a *ℤ pos 1000000000)
not_begun a t s h l = omega (arith, ints, h.low, h.high)

-- a second is at or before an instant as it is at or before its second
pub same_test : (a t : ℤ) → int_le (a *ℤ pos 1000000000) t ≡ int_le a (seconds_of t)
same_test a t = by_test (int_le a (seconds_of t)) refl
  where
    by_test : (b : Bool) → int_le a (seconds_of t) ≡ b → int_le (a *ℤ pos 1000000000) t ≡ b
    by_test true e = le_pass _ _ (begun a t (seconds_of t) (second_is t) (le_from_pass _ _ e))
    by_test false e = le_fail _ _ (not_begun a t (seconds_of t) (second_is t) (le_from_fail _ _ e))

pub total_is : (zone : Schedule) (t : ℤ) → total_at zone t ≡ total_from zone.first zone.shifts (seconds_of t)
unfolding total_at
total_is zone t = λ i. last_total zone.first (filter (λ s. same_test s.0 t i) zone.shifts)
