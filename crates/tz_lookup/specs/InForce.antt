-- Instants and the offsets in force at them, as a zone gives a total for each instant.
use Rattle.std.specs.Prelude.{ℕ, Bool, int_lt, ◌≡◌, ◌↔◌, List, map, Contains, AllPairs, ℤ, pos, ◌+ℤ◌, ◌*ℤ◌, ◌<ℤ◌}
use Rattle.civil_base.specs.{DateTimes.{instant, offset_of}, Instants.{instant_at, seconds_of}, declared.offset_date_time.OffsetDateTime.{OffsetDateTime}}
use Rattle.zone_spans.specs.Schedules.{instants}
use Rattle.tz_lookup.specs.{Answers.{EachOf}, Sets.{shifts_of, span_in, total_of_span}, Spans.{IsCut}, declared.time_zone.OffsetResult.{OffsetResult}, declared.set.FixedTimespanSet.{FixedTimespanSet}}

-- an instant, and the total in force at it
abbrev pub in_force : (ℤ → ℤ) → ℤ → ℤ × ℤ
in_force total t = (t, total t)

-- the instant and the offset of a date-time
unfoldable pub shown_of : OffsetDateTime → ℤ × ℤ
shown_of value = (instant value, offset_of value)

-- the instants that are read as a local time, by time, each with the total in force
unfoldable pub all_in_force : (ℤ → ℤ) → ℤ → List (ℤ × ℤ)
all_in_force total time = map (in_force total) (instants total time)

-- the totals in force at those instants, by time
unfoldable pub totals_at : (ℤ → ℤ) → ℤ → List ℤ
totals_at total time = map total (instants total time)

-- in other words of the list of those instants: it rises, and holds an instant exactly where that is read as the local time
pub record AreInstants (total : ℤ → ℤ) (time : ℤ) (ts : List ℤ) : Type 0 where
  pub rising : AllPairs (λ s t. s <ℤ t) ts
  pub exact : (t : ℤ) → Contains ts t ↔ (t +ℤ pos 1000000000 *ℤ total t ≡ time)

-- the entry that begins span k is the last one at or before an instant; of the first span, that no entry is
abbrev pub IsInForce : FixedTimespanSet → ℕ → ℤ → Type 0
IsInForce set k t = IsCut (shifts_of set) k (seconds_of t)

-- each span is in force at the instant that it reads as the local time x
abbrev pub AreRead : FixedTimespanSet → ℤ → OffsetResult ℕ → Type 0
AreRead set x = EachOf (λ k. IsInForce set k (instant_at x (total_of_span set k)))

-- the span of the last entry at or before an instant, or the first span, has this abbreviation, and its saving is above 0 or not
pub record GivesAt (set : FixedTimespanSet) (t : ℤ) (name : List ℕ) (saving : Bool) : Type 0 where
  pub span : ℕ
  pub in_force : IsInForce set span t
  pub named : name ≡ (span_in set span).name
  pub saves : saving ≡ int_lt (pos 0) (span_in set span).dst_offset
