-- The one string of a set, by trying each candidate from each span on, at every second. This says what is found as a function of the
-- set; it is computed nowhere.
use Rattle.std.specs.{Prelude.{ℕ, zero, suc, ◌+◌, Bool, true, false, ◌&&◌, nat_lt, List, length, Option, if◌then◌else◌, ℤ, pos, ◌+ℤ◌, ◌-ℤ◌, int_le, unsigned_abs}, Int.{int_max}, Ordering.{int_eq}}
use Rattle.zone_spans.specs.Schedules.{Schedule}
use Rattle.tz_lookup.specs.{Sets.{schedule_of, shifts_of}, Spans.{shift_at, total_from}, declared.set.FixedTimespanSet.{FixedTimespanSet}}
use Rattle.zone_tail.specs.{Candidates.{total_by, year_1800}, Choices.{candidate_at}, LastYear.{form}, Tails.{beginning, candidates, end_of_last_year, names_of}, Texts.{text_of}, declared.candidate.Candidate.{Candidate}}
use Rattle.zone_tail.specs.declared.candidate.Candidate.TheVariants.{Fixed, Ruled}

-- n seconds from one on pass the test
unfoldable pub each_second : (ℤ → Bool) → ℤ → ℕ → Bool
each_second test second zero = true
each_second test second (suc n) = test second && each_second test (second +ℤ pos 1) n

-- a candidate gives a zone's total at every second from one up to, without, another
unfoldable pub gives_totals : Candidate → Schedule → ℤ → ℤ → Bool
gives_totals candidate zone low last =
    each_second (λ s. int_eq (total_by candidate s) (total_from zone.first zone.shifts s)) low (unsigned_abs (int_max (last -ℤ low) (pos 0)))

abbrev pub reaches : Candidate → ℤ → Bool
reaches (Fixed total) second = true
reaches (Ruled rule) second = int_le year_1800 second

-- span k is allowed, and the candidate agrees from it on
abbrev pub agrees_from : Candidate → Schedule → ℤ → ℕ → Bool
agrees_from (Fixed total) zone last zero = int_eq total zone.first && gives_totals (Fixed total) zone (shift_at zone.shifts 0).0 last
agrees_from (Ruled rule) zone last zero = false
agrees_from candidate zone last (suc i) =
    nat_lt i (length zone.shifts) && reaches candidate (shift_at zone.shifts i).0 && gives_totals candidate zone (shift_at zone.shifts i).0 last

-- the first of n numbers from k on that passes, or the number after them
unfoldable pub first_with : (ℕ → Bool) → ℕ → ℕ → ℕ
first_with test k zero = k
first_with test k (suc n) = if test k then k else first_with test (suc k) n

-- the first candidate that agrees from a span on, or how many there are
abbrev pub index_from : FixedTimespanSet → ℕ → ℕ
index_from set k =
    first_with (λ i. agrees_from (candidate_at (candidates set) i) (schedule_of set) (end_of_last_year set) k) 0 (length (candidates set))

-- the first span from which on a candidate agrees
unfoldable pub found_span : FixedTimespanSet → ℕ
found_span set = first_with (λ k. nat_lt (index_from set k) (length (candidates set))) 0 (length (shifts_of set) + 1)

unfoldable pub found_from : FixedTimespanSet → Option ℤ
found_from set = beginning (shifts_of set) (found_span set)

unfoldable pub found_text : FixedTimespanSet → List ℕ
found_text set =
    text_of (names_of (form set)).0 (names_of (form set)).1 (candidate_at (candidates set) (index_from set (found_span set)))
