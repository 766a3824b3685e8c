-- Worked examples: how long an answer holds. At 1970-01-01 00:00:00 UTC clocks are set ahead from offset 0 to one hour.
use Rattle.std.{proofs.Common.{◌≡◌, cond, ℕ, ℤ, pos, negsuc, neg_ℤ, ◌≤ℤ◌, Bool, false, true, List, [], ◌∷◌, map, int_lt, refl, ap, arith}, specs.Prelude.{None}, proofs.lemmas.Int.{ints}}
use Rattle.basics.specs.ComparisonLaws.{lt_fail}
use Rattle.civil_base.specs.{Instants.{seconds_of}, Layout.{day_part, time_part}}
use Rattle.tz_lookup.specs.{SecondLaws.{second_is}, declared.set.FixedTimespanSet.{FixedTimespanSet}, Stretches.{least_second}}
use Rattle.zone_spans.specs.{Entries.{Entry}, declared.span.FixedTimespan.{FixedTimespan}}
use Rattle.sefunjaro.specs.{Answers.{begun_at, end_second, ended_at, first_told, keeps_saving, saving_told, IsAnswer, IsAnswered}, Changes.{next_after, settled_changes}, Clocks.{clock_at}, Rooms.{filled}, declared.answer.Answer.{Answer}, declared.zone.Origin.TheVariants.{Source, File}}
use Rattle.tz_ever.specs.declared.recurrence.Recurrence.TheVariants.{Later, Always}

abbrev jump : ℤ → ℤ
jump t = cond (int_lt t (pos 0)) (pos 0) (pos 3600)

-- one abbreviation is in force at all times
abbrev named : ℤ → List ℕ → Bool → Type 0
named t name saving = name ≡ 65 ∷ []

abbrev answer : ℤ → ℤ → Answer
answer from until = record {
  offset = pos 3600;
  is_saving = false;
  is_kept = false;
  saving = pos 0;
  clock = clock_at (pos 0) 3605000000000;
  name_length = 1;
  from = from;
  until = until;
}

-- what is in force five seconds after the change, with these seconds
abbrev Holds : ℤ → ℤ → Type 0
Holds from until = IsAnswer jump named (pos 5000000000) (answer from until) (7 ∷ 7 ∷ []) (65 ∷ 7 ∷ [])

after_it : (u : ℤ) → pos 0 ≤ℤ seconds_of u → jump u ≡ pos 3600
after_it u low =
    let begun = (second_is u).low in ap (λ b. cond b (pos 0) (pos 3600)) (lt_fail u (pos 0) (omega (arith, ints, low, begun)))

from_the_change_on : Holds (pos 0) (pos 100)
unfolding filled seconds_of day_part time_part
from_the_change_on = record {
  years = refl;
  offset = refl;
  clock = refl;
  name = 65 ∷ [];
  length = refl;
  room = refl;
  begun = omega (arith, ints);
  lasts = omega (arith, ints);
  throughout = λ u low high. (after_it u low, refl);
}

-- a second before the change it was another
not_before_it : Holds (negsuc 0) (pos 100) → ⊥
unfolding seconds_of
not_before_it h = apart (h.throughout (negsuc 999999999) (omega (arith, ints)) (omega (arith, ints))).0
  where
    apart : ◌≡◌ {A = ℤ} (pos 0) (pos 3600) → ⊥
    apart e = cc

-- the instant's second is one of those that are told
not_without_it : Holds (pos 0) (pos 5) → ⊥
unfolding seconds_of
not_without_it h = absurd (omega (arith, ints, h.lasts))

not_after_it : Holds (pos 6) (pos 100) → ⊥
unfolding seconds_of
not_after_it h = absurd (omega (arith, ints, h.begun))

-- an hour before the end of the years clocks show the next one
no_local_date : IsAnswered jump named (pos 253402297200000000000) (7 ∷ []) (7 ∷ []) None
no_local_date = (refl, refl)

-- ---- how long it holds
abbrev span : ℤ → FixedTimespan
span offset = record { utc_offset = offset; dst_offset = pos 0; name = 65 ∷ [] }

abbrev entry : ℤ → Entry
entry second = (second, span second)

-- two entries lie at one second, and the last lies past the end
abbrev set : FixedTimespanSet
set = record { name = []; first = span (pos 1); others = entry (pos 10) ∷ entry (pos 20) ∷ entry (pos 20) ∷ entry (pos 269243913601) ∷ [] }

-- before the first entry, at it, before the next, and from it on
worked_begins : map (begun_at (first_told Later) set) (pos 9 ∷ pos 10 ∷ pos 19 ∷ pos 20 ∷ []) ≡ least_second ∷ pos 10 ∷ pos 10 ∷ pos 20 ∷ []
worked_begins = refl

-- of a zone whose changes come again always none is told before the year -10298
always_begins : map (begun_at (first_told Always) set) (pos 9 ∷ pos 10 ∷ []) ≡ neg_ℤ (pos 387140688000) ∷ pos 10 ∷ []
always_begins = refl

-- the saving of a source's zone is told, and none of a file's
worked_savings : saving_told Source (negsuc 3599) ∷ saving_told File (pos 3600) ∷ [] ≡ negsuc 3599 ∷ pos 0 ∷ []
worked_savings = refl

kept_savings : keeps_saving Source ∷ keeps_saving File ∷ [] ≡ true ∷ false ∷ []
kept_savings = refl

worked_ends : map (ended_at set) (pos 9 ∷ pos 10 ∷ pos 19 ∷ pos 20 ∷ pos 269243913601 ∷ []) ≡ pos 10 ∷ pos 20 ∷ pos 20 ∷ end_second ∷ end_second ∷ []
unfolding next_after settled_changes
worked_ends = refl
