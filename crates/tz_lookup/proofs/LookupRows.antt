-- Gaps, folds, faults, abbreviations and kinds of small sets, at worked rows.
use Rattle.std.{proofs.Common.{◌≡◌, ℕ, zero, suc, ◌+◌, true, false, List, [], ◌∷◌, map, ℤ, pos, negsuc, refl, ap, ◌∙◌, arith}, specs.Prelude.{Bool, Option, Some, None, Ok, Err, codes, int_lt}, proofs.lemmas.Int.{ints}}
use Rattle.civil_base.specs.Instants.{seconds_of}
use Rattle.zone_spans.specs.Schedules.{Schedule, total_at, totals_of, is_in_offset_range}
use Rattle.zone_spans.specs.declared.fault.SpanFault.TheVariants as span_fault
use Rattle.zone_spans.specs.declared.span.FixedTimespan.{FixedTimespan}
use Rattle.zone_spans.specs.declared.span.FixedTimespanSet as spans
use Rattle.tz_lookup.specs.{declared.set.TzFault.TheVariants.{OffsetRange, Falling, Bound}, declared.time_zone.OffsetResult.{OffsetResult}, declared.set.FixedTimespanSet.{FixedTimespanSet}, Answers.{listed, AreAdjacent, AreMapped, EachOf}, Compiles.{IsZoneFault}, Faults.{IsFault}, InForce.{GivesAt}, Results.{has_one, only_in, first_in, second_in, is_none_in, is_ambiguous_in}, Scans.{spans_from}, Sets.{schedule_of, shifts_of, span_in, IsOrderlyZone, IsSpanTime}, Spans.{Shift, IsIn, IsCut}}
use Rattle.tz_lookup.specs.declared.time_zone.OffsetResult.TheVariants as found
use Rattle.tz_lookup.specs.declared.compile.ZoneFault.TheVariants as cause

abbrev zone : ℤ → List Shift → Schedule
zone first shifts = record { first = first; shifts = shifts }

-- ---- a clock set ahead by an hour at the second 1,000,000

abbrev ahead : Schedule
ahead = zone (pos 0) ((pos 1000000, pos 3600) ∷ [])

-- the last second before the gap, its first and its last, and the first after it
about_the_gap : map (λ x. spans_from ahead x 0 2) (pos 999999 ∷ pos 1000000 ∷ pos 1003599 ∷ pos 1003600 ∷ []) ≡ (0 ∷ []) ∷ [] ∷ [] ∷ (1 ∷ []) ∷ []
about_the_gap = refl

-- ---- a clock set back by an hour at the second 1,000,000

abbrev back : Schedule
back = zone (pos 0) ((pos 1000000, negsuc 3599) ∷ [])

-- and so of the fold
about_the_fold : map (λ x. spans_from back x 0 2) (pos 996399 ∷ pos 996400 ∷ pos 999999 ∷ pos 1000000 ∷ [])
    ≡ (0 ∷ []) ∷ (0 ∷ 1 ∷ []) ∷ (0 ∷ 1 ∷ []) ∷ (1 ∷ []) ∷ []
about_the_fold = refl

-- ---- three spans over one local second

abbrev knot : Schedule
knot = zone (pos 7200) ((pos 1000, pos 3600) ∷ (pos 2000, pos 0) ∷ [])

three_spans : spans_from knot (pos 5000) 0 3 ≡ 0 ∷ 1 ∷ 2 ∷ []
three_spans = refl

in_the_first : IsIn (pos 7200) knot.shifts 0 (pos 5000)
in_the_first = record { within = omega arith; begun = λ l. absurd (omega arith); lasts = λ l. omega (arith, ints) }

in_the_third : IsIn (pos 7200) knot.shifts 2 (pos 5000)
in_the_third = record { within = omega arith; begun = λ l. omega (arith, ints); lasts = λ l. absurd (omega arith) }

-- at its local end a span has ended
at_its_end : IsIn (pos 0) ahead.shifts 0 (pos 1000000) → ⊥
at_its_end lies = absurd (omega (arith, ints, lies.lasts (omega arith)))

-- such a set isn't orderly
knot_is_not_orderly : IsOrderlyZone knot → ⊥
knot_is_not_orderly orderly = orderly.apart 0 (pos 5000) in_the_first in_the_third

-- nor is one whose local starts fall, or its local ends
starts_fall : IsOrderlyZone (zone (pos 0) ((pos 0, pos 7200) ∷ (pos 3600, pos 0) ∷ [])) → ⊥
starts_fall orderly = absurd (omega (arith, ints, orderly.starts 1 2 (omega arith) (omega arith) (omega arith)))

ends_fall : IsOrderlyZone (zone (pos 7200) ((pos 0, pos 0) ∷ (pos 3600, pos 0) ∷ [])) → ⊥
ends_fall orderly = absurd (omega (arith, ints, orderly.ends 0 1 (omega arith) (omega arith)))

-- ---- which fault comes first

-- 26 hours, and falling times
abbrev far_and_falling : Schedule
far_and_falling = zone (pos 93600) ((pos 1, pos 0) ∷ (pos 0, pos 0) ∷ [])

far_is_first : IsFault far_and_falling OffsetRange
far_is_first = λ h. cc

falling_is_not_first : IsFault far_and_falling Falling → ⊥
falling_is_not_first fault = cc (fault.0)

-- falling times past 2^40
abbrev falling_and_late : Schedule
falling_and_late = zone (pos 0) ((pos 1099511627777, pos 0) ∷ (pos 0, pos 0) ∷ [])

falling_is_first : IsFault falling_and_late Falling
falling_is_first = (refl, λ times. absurd (omega (arith, ints, times 0 1 (omega arith) (omega arith))))

late_is_not_first : IsFault falling_and_late Bound → ⊥
late_is_not_first fault = absurd (omega (arith, ints, fault.1 0 1 (omega arith) (omega arith)))

-- 26 hours is too far, on either side
offset_ranges : map is_in_offset_range (zone (pos 93599) ((pos 0, negsuc 93598) ∷ []) ∷ zone (pos 0) ((pos 0, pos 93600) ∷ []) ∷ zone (negsuc 93599) [] ∷ [])
    ≡ true ∷ false ∷ false ∷ []
offset_ranges = refl

last_time : IsSpanTime (pos 1099511627776)
last_time = (omega (arith, ints), omega (arith, ints))

first_time : IsSpanTime (negsuc 1099511627775)
first_time = (omega (arith, ints), omega (arith, ints))

time_too_late : IsSpanTime (pos 1099511627777) → ⊥
time_too_late h = absurd (omega (arith, ints, h.1))

time_too_early : IsSpanTime (negsuc 1099511627776) → ⊥
time_too_early h = absurd (omega (arith, ints, h.0))

-- ---- what is in force at an instant: winter time, and summer time from the second 1,000 on

abbrev from_1000 : FixedTimespan → FixedTimespan → FixedTimespanSet
from_1000 winter summer = record { name = codes "Test"; first = winter; others = (pos 1000, summer) ∷ [] }

abbrev span : ℤ → List ℕ → FixedTimespan
span saving name = record { utc_offset = pos 3600; dst_offset = saving; name = name }

abbrev summer : FixedTimespanSet
summer = from_1000 (span (pos 0) (codes "CET")) (span (pos 3600) (codes "CEST"))

last_and_first : map (total_at (schedule_of summer)) (pos 999999999999 ∷ pos 1000000000000 ∷ []) ≡ pos 3600 ∷ pos 7200 ∷ []
unfolding total_at
last_and_first = refl

-- half a second before 1970 lies in the second before it
half_a_second_before : seconds_of (negsuc 499999999) ≡ negsuc 0
unfolding seconds_of
half_a_second_before = refl

-- of a change at the second 1,000
first_span : (early late : FixedTimespan) (k : ℕ) → IsCut (shifts_of (from_1000 early late)) k (pos 999) → k ≡ 0
first_span early late zero cut = refl
first_span early late (suc k) cut = absurd (omega (arith, ints, cut.before 0 (omega arith)))

second_span : (early late : FixedTimespan) (k : ℕ) → IsCut (shifts_of (from_1000 early late)) k (pos 1000) → k ≡ 1
second_span early late zero cut = absurd (omega (arith, ints, cut.after 0 (omega arith) (omega arith)))
second_span early late (suc zero) cut = refl
second_span early late (suc (suc k)) cut = absurd (omega (arith, cut.within))

-- by the span that is in force
called_in : (set : FixedTimespanSet) (t : ℤ) (n : ℕ) → ((k : ℕ) → IsCut (shifts_of set) k (seconds_of t) → k ≡ n)
    → (name : List ℕ) (saving : Bool) → GivesAt set t name saving → (name ≡ (span_in set n).name) × (saving ≡ int_lt (pos 0) (span_in set n).dst_offset)
called_in set t n only name saving given =
    let is = only given.span given.in_force in
    (given.named ∙ ap (λ k. (span_in set k).name) is, given.saves ∙ ap (λ k. int_lt (pos 0) (span_in set k).dst_offset) is)

called_in_winter : (name : List ℕ) (saving : Bool) → GivesAt summer (pos 999999999999) name saving → (name ≡ codes "CET") × (saving ≡ false)
unfolding seconds_of
called_in_winter = called_in summer (pos 999999999999) 0 (first_span (span (pos 0) (codes "CET")) (span (pos 3600) (codes "CEST")))

called_in_summer : (name : List ℕ) (saving : Bool) → GivesAt summer (pos 1000000000000) name saving → (name ≡ codes "CEST") × (saving ≡ true)
unfolding seconds_of
called_in_summer = called_in summer (pos 1000000000000) 1 (second_span (span (pos 0) (codes "CET")) (span (pos 3600) (codes "CEST")))

-- ---- a saving below 0 is no daylight saving time: Irish time, with its winter as the saving

abbrev irish : FixedTimespanSet
irish = from_1000 (span (negsuc 3599) (codes "GMT")) (span (pos 0) (codes "IST"))

irish_winter : total_at (schedule_of irish) (pos 999999999999) ≡ pos 0
unfolding total_at
irish_winter = refl

called_in_irish_winter : (name : List ℕ) (saving : Bool) → GivesAt irish (pos 999999999999) name saving → (name ≡ codes "GMT") × (saving ≡ false)
unfolding seconds_of
called_in_irish_winter = called_in irish (pos 999999999999) 0 (first_span (span (negsuc 3599) (codes "GMT")) (span (pos 0) (codes "IST")))

-- ---- the values of an answer

-- whether there is one, none or two; the only one, the first and the second; all of them
abbrev told : OffsetResult ℕ → Bool × Bool × Bool × Option ℕ × Option ℕ × Option ℕ × List ℕ
told r = (has_one r, is_none_in r, is_ambiguous_in r, only_in r, first_in r, second_in r, listed r)

none_told : told found.None ≡ (false, true, false, None, None, None, [])
none_told = refl

one_told : told (found.Some 1) ≡ (true, false, false, Some 1, Some 1, Some 1, 1 ∷ [])
one_told = refl

two_told : told (found.Ambiguous 1 2) ≡ (false, false, true, None, Some 1, Some 2, 1 ∷ 2 ∷ [])
two_told = refl

-- neighbours are a span and the one right after it
neighbours : AreAdjacent (found.Ambiguous 1 2)
neighbours = refl

no_neighbours : (AreAdjacent (found.Ambiguous 1 1) → ⊥) × (AreAdjacent (found.Ambiguous 1 3) → ⊥) × (AreAdjacent (found.Ambiguous 2 1) → ⊥)
no_neighbours = (λ e. absurd (omega (arith, e)), λ e. absurd (omega (arith, e)), λ e. absurd (omega (arith, e)))

-- of two values each counts
abbrev is_one : ℕ → Type 0
is_one n = n ≡ 1

each_of_two : EachOf is_one (found.Ambiguous 1 2) → ⊥
each_of_two each = absurd (omega (arith, each.1))

-- what is mapped has a value for each, in the same order
abbrev ten_more : ℕ → ℕ → Type 0
ten_more a b = b ≡ a + 10

mapped_in_order : AreMapped ten_more (found.Ambiguous 1 2) (found.Ambiguous 11 12)
mapped_in_order = (refl, refl)

mapped_otherwise : (AreMapped ten_more (found.Ambiguous 1 2) (found.Ambiguous 12 11) → ⊥) × (AreMapped ten_more (found.Some 1) found.None → ⊥)
mapped_otherwise = (λ e. absurd (omega (arith, e.0)), λ e. e)

-- ---- why what a name finds can't be looked up

-- one offset for good
abbrev for_good : ℤ → spans.FixedTimespanSet
for_good offset = record { first = record { utc_offset = offset; dst_offset = pos 0; name = codes "A" }; rest = [] }

-- a zone that is found is no unknown one, and a fault is its own
other_causes : (IsZoneFault (Some (Ok (for_good (pos 0)))) cause.UnknownZone → ⊥)
    × (IsZoneFault (Some (Err span_fault.DayRange)) (cause.Schedule span_fault.MissingUntil) → ⊥)
other_causes = (λ e. cc (e), λ e. cc (e.0))

-- want of memory is no fault of a schedule
no_fault_of_memory : IsZoneFault (Some (Err span_fault.NoMemory)) (cause.Schedule span_fault.NoMemory) → ⊥
no_fault_of_memory e = e.1 refl

-- 26 hours
far_zone : IsZoneFault (Some (Ok (for_good (pos 93600)))) cause.OffsetRange
unfolding totals_of
far_zone = record { set = for_good (pos 93600); is_found = refl; far = refl }
