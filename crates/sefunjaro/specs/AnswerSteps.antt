-- What the span in force at an instant says, and how long it is in force.
use Rattle.std.specs.Int.{int_max}
use Rattle.std.specs.Prelude.{◌≡◌, ◌<◌, ◌≤◌, ℕ, ℤ, pos, ◌≤ℤ◌, ◌<ℤ◌, false, true, int_lt, List, length, Option, Some, None}
use Rattle.civil_base.specs.{DateTimes.{instant, local_of, offset_of}, Instants.{local_at, seconds_of}, Layout.{day_part, time_part}, Ranges.{is_in_years}, declared.offset_date_time.OffsetDateTime.{OffsetDateTime}}
use Rattle.zone_spans.specs.declared.span.FixedTimespan.{FixedTimespan}
use Rattle.tz_lookup.specs.{Sets.{shifts_of, span_in, total_of_span}, Spans.{shift_at, IsCut}, declared.set.FixedTimespanSet.{FixedTimespanSet}, Stretches.{begin_second, least_second}}
use Rattle.sefunjaro.specs.{Answers.{end_second, keeps_saving, saving_told, up_to_end}, Clocks.{clock_at}, Rooms.{filled}, declared.answer.Answer.{Answer}, declared.answer.Around.{Around}, declared.zone.Origin.{Origin}}

-- a span of a set is in force throughout some seconds from the first one on and before the end, among them this one: up to the entry
-- behind it
pub record IsAround (first : ℤ) (set : FixedTimespanSet) (second : ℤ) (around : Around) : Type 0 where
  pub late : first ≤ℤ around.from
  pub begun : around.from ≤ℤ second
  pub lasts : second <ℤ around.until
  pub early : around.until ≤ℤ end_second
  pub throughout : (u : ℤ) → around.from ≤ℤ u → u <ℤ around.until → IsCut (shifts_of set) around.span u
  pub from : around.from ≡ int_max first (begin_second least_second (shifts_of set) around.span)
  pub until : around.span < length (shifts_of set) → around.until ≡ up_to_end (shift_at (shifts_of set) around.span).0
  pub at_end : length (shifts_of set) ≤ around.span → around.until ≡ end_second

-- the answer is made of a span that is in force throughout those seconds, and of the instant at its offset; a source's zone keeps its saving
pub record IsMadeOf (origin : Origin) (span : FixedTimespan) (around : Around) (shown : OffsetDateTime) (answer : Answer) (old new : List ℕ) : Type 0 where
  pub offset : answer.offset ≡ offset_of shown
  pub clock : answer.clock ≡ clock_at (day_part (local_of shown)) (time_part (local_of shown))
  pub is_saving : answer.is_saving ≡ int_lt (pos 0) span.dst_offset
  pub is_kept : answer.is_kept ≡ keeps_saving origin
  pub saving : answer.saving ≡ saving_told origin span.dst_offset
  pub length : answer.name_length ≡ length span.name
  pub room : new ≡ filled span.name old
  pub from : answer.from ≡ around.from
  pub until : answer.until ≡ around.until

pub record IsOfSpan (origin : Origin) (first : ℤ) (set : FixedTimespanSet) (t : ℤ) (answer : Answer) (old new : List ℕ) : Type 0 where
  pub around : Around
  pub is_around : IsAround first set (seconds_of t) around
  pub shown : OffsetDateTime
  pub instant : instant shown ≡ t
  pub offset : offset_of shown ≡ total_of_span set around.span
  pub years : is_in_years (local_at t (total_of_span set around.span)) ≡ true
  pub made : IsMadeOf origin (span_in set around.span) around shown answer old new

pub record HasNoDate (first : ℤ) (set : FixedTimespanSet) (t : ℤ) : Type 0 where
  pub around : Around
  pub is_around : IsAround first set (seconds_of t) around
  pub years : is_in_years (local_at t (total_of_span set around.span)) ≡ false

abbrev pub IsToldBySpan : Origin → ℤ → FixedTimespanSet → ℤ → List ℕ → List ℕ → Option Answer → Type 0
IsToldBySpan origin first set t old new (Some answer) = IsOfSpan origin first set t answer old new
IsToldBySpan origin first set t old new None = HasNoDate first set t × (new ≡ old)
