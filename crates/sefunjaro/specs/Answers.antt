-- All that a zone says of an instant, and how long it holds.
use Rattle.std.specs.Int.{int_max}
use Rattle.std.specs.Prelude.{◌≡◌, ℕ, ℤ, pos, neg_ℤ, ◌≤ℤ◌, ◌<ℤ◌, int_le, int_lt, if◌then◌else◌, Bool, true, false, List, [], ◌∷◌, filter, length, Option, Some, None}
use Rattle.civil_base.specs.{Instants.{local_at, seconds_of}, Layout.{day_part, time_part}, Ranges.{is_in_years}}
use Rattle.zone_spans.specs.Entries.{Entry}
use Rattle.tz_ever.specs.declared.{recurrence.Recurrence.{Recurrence}, recurrence.Recurrence.TheVariants.{Never, Later, Always}}
use Rattle.tz_lookup.specs.{declared.set.FixedTimespanSet.{FixedTimespanSet}, Stretches.{least_second}}
use Rattle.sefunjaro.specs.{Changes.{next_after, saving_at}, Clocks.{clock_at}, Rooms.{filled}, Zones.{origin_in, recurrence_in, spans_in}, declared.answer.Answer.{Answer}, declared.changes.Change.{Change}, declared.zone.OpenZone.{OpenZone}, declared.zone.Origin.{Origin}}
use Rattle.sefunjaro.specs.declared.zone.Origin.TheVariants.{Source, File}

-- The answer is that of an instant whose local date lies in the years -9999 to 9999. Its second is one of those that are told, and
-- throughout these its offset and its abbreviation, with that kind of time, are in force.
pub record IsAnswer (total : ℤ → ℤ) (gives : ℤ → List ℕ → Bool → Type 0) (t : ℤ) (answer : Answer) (old new : List ℕ) : Type 0 where
  pub years : is_in_years (local_at t (total t)) ≡ true
  pub offset : answer.offset ≡ total t
  pub clock : answer.clock ≡ (let x = local_at t (total t) in clock_at (day_part x) (time_part x))
  pub name : List ℕ
  pub length : answer.name_length ≡ length name
  pub room : new ≡ filled name old
  pub begun : answer.from ≤ℤ seconds_of t
  pub lasts : seconds_of t <ℤ answer.until
  pub throughout : (u : ℤ) → answer.from ≤ℤ seconds_of u → seconds_of u <ℤ answer.until → (total u ≡ total t) × gives u name answer.is_saving

-- it is told; or there is none, since the local date lies outside them
abbrev pub IsAnswered : (ℤ → ℤ) → (ℤ → List ℕ → Bool → Type 0) → ℤ → List ℕ → List ℕ → Option Answer → Type 0
IsAnswered total gives t old new (Some answer) = IsAnswer total gives t answer old new
IsAnswered total gives t old new None = (is_in_years (local_at t (total t)) ≡ false) × (new ≡ old)

-- a zone of a source keeps its saving; a file or a string says only whether it is daylight saving time
abbrev pub keeps_saving : Origin → Bool
keeps_saving Source = true
keeps_saving File = false

abbrev pub saving_told : Origin → ℤ → ℤ
saving_told Source saving = saving
saving_told File saving = pos 0

-- the saving throughout those seconds is told where it is kept, and none where it isn't
pub record IsSavingTold (origin : Origin) (spans : FixedTimespanSet) (answer : Answer) : Type 0 where
  pub is_kept : answer.is_kept ≡ keeps_saving origin
  pub throughout : (u : ℤ) → answer.from ≤ℤ u → u <ℤ answer.until → answer.saving ≡ saving_told origin (saving_at spans u)

abbrev pub TellsSaving : OpenZone → Answer → Type 0
TellsSaving zone answer = IsSavingTold (origin_in zone) (spans_in zone) answer

-- 10502-01-01 00:00:00 UTC: up to then the entries of a zone that goes on are listed
abbrev pub end_second : ℤ
end_second = pos 269243913600

-- the second, or the end where that comes first
abbrev pub up_to_end : ℤ → ℤ
up_to_end second = if int_lt second end_second then second else end_second

-- the second of a change, or the end where there is none before it
abbrev pub second_of_change : Option Change → ℤ
second_of_change (Some change) = up_to_end change.second
second_of_change None = end_second

-- the second of the last of some entries, or the least of all seconds where there is none
abbrev pub last_second : ℤ → List Entry → ℤ
last_second second [] = second
last_second second (entry ∷ entries) = last_second entry.0 entries

-- the second from which on the entries of a zone are told: -10298-01-01 00:00:00 UTC where its changes come again always
abbrev pub first_told : Recurrence → ℤ
first_told Never = least_second
first_told Later = least_second
first_told Always = neg_ℤ (pos 387140688000)

-- the second of the last entry of a set at or before this one, and not before the first; and that of the next change after it
abbrev pub begun_at : ℤ → FixedTimespanSet → ℤ → ℤ
begun_at first set second = int_max first (last_second least_second (filter (λ entry. int_le entry.0 second) set.others))

abbrev pub ended_at : FixedTimespanSet → ℤ → ℤ
ended_at set second = second_of_change (next_after set second)

-- the seconds that are told lie between these two
pub record IsBetween (first : ℤ) (set : FixedTimespanSet) (second : ℤ) (answer : Answer) : Type 0 where
  pub from : answer.from ≡ begun_at first set second
  pub until : answer.until ≡ ended_at set second

-- how long the answer of an instant holds
abbrev pub TellsUntil : OpenZone → ℤ → Answer → Type 0
TellsUntil zone t answer = IsBetween (first_told (recurrence_in zone)) (spans_in zone) (seconds_of t) answer
