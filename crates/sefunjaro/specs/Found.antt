-- One instant of each of some local times, by rules for those that clocks show more than once or never.
use Rattle.std.specs.Prelude.{◌≡◌, ◌<◌, ◌≤◌, ℕ, ℤ, All, List, [], ◌∷◌, length, map, min, slice_index_or, Result, Ok, Err}
use Rattle.civil_base.specs.Instants.{instant_at, seconds_of}
use Rattle.tz_lookup.specs.InForce.{all_in_force}
use Rattle.sefunjaro.specs.{Asked.{reading_of}, Clocks.{clock_shown, IsClock}, Gaps.{IsSkippedBy}, declared.clock.Clock.{Clock}, declared.found.FoldRule.{FoldRule}, declared.found.FoldRule.TheVariants.{First, Second}, declared.found.Found.{Found}}
use Rattle.sefunjaro.specs.declared.{found.GapRule.{GapRule}, found.GapRule.TheVariants.{Before, After, None}, gap.Gap.{Gap}, zone.Reading.{Reading}}

-- of the readings of a local time, the first of which is r, the one that the rule takes: the second only where there is one
abbrev pub by_fold : FoldRule → Reading → List Reading → Reading
by_fold First r rest = r
by_fold Second r [] = r
by_fold Second r (s ∷ rest) = s

-- how many readings there are, where 3 stands for more
abbrev pub kind_of : ℕ → ℕ
kind_of count = min count 3

-- a reading, and how many there are
abbrev pub found_of : Reading → ℕ → Found
found_of reading count = record { second = reading.second; offset = reading.offset; kind = kind_of count }

-- the instant at which clocks of an offset show the local time x, which is skipped
abbrev pub by_offset : ℤ → ℤ → Found
by_offset x offset = record { second = seconds_of (instant_at x offset); offset = offset; kind = 0 }

-- in a gap, by the offset before the change or after it, or the change itself
abbrev pub by_gap : GapRule → ℤ → Gap → Found
by_gap Before x gap = by_offset x gap.before
by_gap After x gap = by_offset x gap.after
by_gap None x gap = record { second = gap.second; offset = gap.before; kind = 0 }

-- the local time x is skipped by a change, and this is found by the rule
pub record IsFoundInGap (total : ℤ → ℤ) (rule : GapRule) (x : ℤ) (found : Found) : Type 0 where
  pub gap : Gap
  pub skipped : IsSkippedBy total x gap
  pub is : found ≡ by_gap rule x gap

-- this is found of a local time by its readings
abbrev pub IsFoundOf : (ℤ → ℤ) → FoldRule → GapRule → ℤ → List Reading → Found → Type 0
IsFoundOf total fold gap x [] found = IsFoundInGap total gap x found
IsFoundOf total fold gap x (r ∷ rest) found = found ≡ found_of (by_fold fold r rest) (length (r ∷ rest))

abbrev pub IsFound : (ℤ → ℤ) → FoldRule → GapRule → ℤ → Found → Type 0
IsFound total fold gap x found = IsFoundOf total fold gap x (map reading_of (all_in_force total x)) found

-- each of some parts is a local time
abbrev pub AreLocalTimes : List Clock → Type 0
AreLocalTimes clocks = All IsClock clocks

-- the first that is none stands at this place, from 0
pub record IsFirstFaulty (clocks : List Clock) (place : ℕ) : Type 0 where
  pub within : place < length clocks
  pub before : (i : ℕ) (c : Clock) → i < place → IsClock (slice_index_or clocks i c)
  pub here : (c : Clock) → ¬ (IsClock (slice_index_or clocks place c))

-- each item of the room is what is found of the local time at its place, and behind them is what was there
pub record AreFound (total : ℤ → ℤ) (fold : FoldRule) (gap : GapRule) (clocks : List Clock) (old new : List Found) : Type 0 where
  pub each : (i : ℕ) (c : Clock) (f : Found) → i < length clocks → i < length new
      → IsFound total fold gap (clock_shown (slice_index_or clocks i c)) (slice_index_or new i f)
  pub behind : (i : ℕ) (f : Found) → length clocks ≤ i → slice_index_or new i f ≡ slice_index_or old i f

-- so it is where all are local times; or the place of the first that is none is told, and the room is as it was
abbrev pub AreToldOf : (ℤ → ℤ) → FoldRule → GapRule → List Clock → List Found → List Found → Result (Unit {0}) ℕ → Type 0
AreToldOf total fold gap clocks old new (Ok told) = AreLocalTimes clocks × AreFound total fold gap clocks old new
AreToldOf total fold gap clocks old new (Err place) = IsFirstFaulty clocks place × (new ≡ old)
