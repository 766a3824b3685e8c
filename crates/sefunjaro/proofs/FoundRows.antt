-- Worked examples: one instant of a local time, by rules. At 1970-01-01 00:00:00 UTC clocks are set ahead from offset 0 to one hour.
use Rattle.std.{proofs.Common.{◌≡◌, ◌<◌, cond, ℕ, zero, suc, ℤ, pos, negsuc, [], ◌∷◌, lit<, lit≤, refl, ap, arith}, specs.Prelude.{int_lt, slice_index_or}, proofs.lemmas.Int.{ints}}
use Rattle.basics.specs.Days.{days_in_month, is_leap}
use Rattle.civil_base.specs.Instants.{seconds_of}
use Rattle.sefunjaro.specs.{Clocks.{clock_shown, IsClock}, Found.{by_gap, AreFound, IsFirstFaulty, IsFound, IsFoundInGap, IsFoundOf}, declared.clock.Clock.{Clock}, declared.found.FoldRule.TheVariants.{First, Second}, declared.found.Found.{Found}}
use Rattle.sefunjaro.specs.declared.{found.GapRule.{GapRule}, found.GapRule.TheVariants.{Before, After, None}, gap.Gap.{Gap}, zone.Reading.{Reading}}

abbrev jump : ℤ → ℤ
jump t = cond (int_lt t (pos 0)) (pos 0) (pos 3600)

abbrev reading : ℤ → ℤ → Reading
reading second offset = record { second = second; offset = offset }

abbrev found : ℤ → ℤ → ℕ → Found
found second offset kind = record { second = second; offset = offset; kind = kind }

-- the only reading, whatever the rule
only : IsFoundOf jump Second Before (pos 0) (reading (pos 5) (pos 7200) ∷ []) (found (pos 5) (pos 7200) 1)
only = refl

first_of_two : IsFoundOf jump First Before (pos 0) (reading (pos 5) (pos 7200) ∷ reading (pos 3605) (pos 3600) ∷ []) (found (pos 5) (pos 7200) 2)
first_of_two = refl

second_of_two : IsFoundOf jump Second Before (pos 0) (reading (pos 5) (pos 7200) ∷ reading (pos 3605) (pos 3600) ∷ []) (found (pos 3605) (pos 3600) 2)
second_of_two = refl

second_of_four : IsFoundOf jump Second Before (pos 0)
    (reading (pos 5) (pos 9) ∷ reading (pos 6) (pos 8) ∷ reading (pos 7) (pos 7) ∷ reading (pos 8) (pos 6) ∷ []) (found (pos 6) (pos 8) 3)
second_of_four = refl

-- half past midnight is skipped: it is half past by the offset before, half an hour before the change by the one after, or the change
abbrev skipped : GapRule → Found → Type 0
skipped rule item = IsFoundInGap jump rule (pos 1800000000000) item

abbrev hour : Gap
hour = record { second = pos 0; before = pos 0; after = pos 3600 }

in_gap : (rule : GapRule) (item : Found) → item ≡ by_gap rule (pos 1800000000000) hour → skipped rule item
in_gap rule item is = record {
  gap = hour;
  skipped = record { before = refl; after = refl; behind = omega (arith, ints); ahead = omega (arith, ints) };
  is = is;
}

by_each_rule : skipped Before (found (pos 1800) (pos 0) 0) × skipped After (found (negsuc 1799) (pos 3600) 0) × skipped None (found (pos 0) (pos 0) 0)
unfolding seconds_of
by_each_rule = (in_gap Before _ refl, in_gap After _ refl, in_gap None _ refl)

-- an hour has no minute 60
abbrev at_minute : ℕ → Clock
at_minute minute = record { year = pos 2024; month = 1; day = 1; hour = 12; minute = minute; second = 0; nanosecond = 0 }

noon_is : IsClock (at_minute 0)
unfolding is_leap days_in_month
noon_is = record {
  year = record { first = omega (arith, ints); last = omega (arith, ints) };
  date = record { first_month = lit≤ tt; last_month = lit≤ tt; first_day = lit≤ tt; last_day = lit≤ tt };
  time = record { hours = lit< tt; minutes = lit< tt; seconds = lit< tt; nanoseconds = lit< tt };
}

first_is_one : (i : ℕ) (c : Clock) → i < 1 → IsClock (slice_index_or (at_minute 0 ∷ at_minute 60 ∷ []) i c)
first_is_one zero c l = noon_is
first_is_one (suc i) c l = absurd (omega (arith, l))

the_other_is_told : IsFirstFaulty (at_minute 0 ∷ at_minute 60 ∷ []) 1
the_other_is_told = record { within = lit< tt; before = first_is_one; here = λ c h. absurd (omega (arith, h.time.minutes)) }

-- where nothing is asked the room stays as it is
kept_behind : AreFound jump First Before [] (found (pos 7) (pos 7) 7 ∷ []) (found (pos 8) (pos 7) 7 ∷ []) → ⊥
kept_behind h = apart (ap (λ (item : Found). item.second) (h.behind 0 (found (pos 0) (pos 0) 0) (lit≤ tt)))
  where
    apart : ◌≡◌ {A = ℤ} (pos 8) (pos 7) → ⊥
    apart e = cc

-- what stands in the room for a local time is found of it
each_is_found : (clock : Clock) (item kept : Found) → AreFound jump First Before (clock ∷ []) (kept ∷ []) (item ∷ []) → IsFound jump First Before (clock_shown clock) item
each_is_found clock item kept h = h.each 0 clock item (lit< tt) (lit< tt)
