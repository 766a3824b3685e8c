-- Requests for instants of one local day, whose lines differ in the last digits alone: their answers' lines differ in the time of day.
use Rattle.std.specs.{Prelude.{◌≡◌, ℕ, ◌+◌, ◌-◌, ◌≤◌, ◌<◌, ◌++◌, ◌∷◌, ◌==◌, ◌&&◌, Bool, true, false, ℤ, pos, ◌+ℤ◌, ◌-ℤ◌, ◌≤ℤ◌, ◌<ℤ◌, int_le, int_lt, nat_le, nat_lt, All, List, Option, Some, None, length, take, drop}, Char.{is_digit}, List.{list_all}, Str.{bytes_eq}, Str.Parse.{digits_value}}
use Rattle.civil_base.specs.{Clock.{nanos_per_day}, Instants.{local_at, nanos_of, seconds_of}, Layout.{day_part, time_part, time_text}}
use Rattle.tz_lookup.specs.declared.stretch.Stretch.{Stretch}
use Rattle.zone_answers.specs.{Due.{answer_line, shown_for}, Faults.{request_refusal}, Found.{Found}, ReadBack.{IsReadBack}, Requests.{Request, at, local, request_of}, declared.same_day.SameDay.{SameDay}}

-- 2191-10-27, in nanoseconds from 1970-01-01 00:00:00 UTC: later instants are answered one by one
abbrev pub last_instant : ℕ
last_instant = 7000000000000000000

-- an instant before the latest is asked for
abbrev pub IsBefore : ℕ → Option Request → Type 0
IsBefore latest (Some (at name instant)) = instant <ℤ pos latest
IsBefore latest (Some (local name time)) = ⊥
IsBefore latest None = ⊥

-- the request, whatever its number, asks for an instant before the latest and is answered by this line, where names find this
pub record IsAnswered (names : List ℕ → Found) (latest : ℕ) (request answer : List ℕ) : Type 0 where
  pub accepted : (n : ℕ) → request_refusal names n request ≡ None
  pub line : answer_line names request ≡ answer
  pub back : All IsReadBack (shown_for names request)
  pub early : IsBefore latest (request_of request)

-- and this line stands behind a text now
abbrev pub IsAdded : (List ℕ → Found) → ℕ → List ℕ → List ℕ → List ℕ → Type 0
IsAdded names latest request old new =
    IsAnswered names latest request (answer_line names request) × (new ≡ old ++ answer_line names request)

-- the digits that may differ
pub record AreLast (last : List ℕ) : Type 0 where
  pub count : length last ≡ 14
  pub digits : list_all (λ c. is_digit c 10) last ≡ true

-- what a line begins with, but for so many digits
abbrev pub front_of : List ℕ → List ℕ
front_of line = take (length line - 14) line

-- the last fourteen bytes of a line
abbrev pub last_of : List ℕ → List ℕ
last_of line = drop (length line - 14) line

-- two lines are as long, and may differ in the last fourteen of more bytes alone
unfoldable pub are_alike : List ℕ → List ℕ → Bool
are_alike one other = length one == length other && nat_lt 14 (length one) && bytes_eq (front_of one) (front_of other)

-- the line is like one of the day's, but for last digits that write a number of the day's
unfoldable pub is_of : SameDay → List ℕ → List ℕ → Bool
is_of day before line =
    are_alike before line && list_all (λ c. is_digit c 10) (last_of line) && nat_le day.from (digits_value 10 (last_of line))
    && nat_lt (digits_value 10 (last_of line)) day.until

-- an instant is asked for, from 1970-01-02 03:46:40 UTC up to the latest
unfoldable pub is_near : ℕ → Request → Bool
is_near latest (at name instant) = int_le (pos 100000000000000) instant && int_lt instant (pos latest)
is_near latest (local name time) = false

-- and is answered by as many bytes as those of the years 0 to 9999
abbrev pub has_day : ℕ → Request → List ℕ → Bool
has_day latest request shown = is_near latest request && length shown == 39

-- a line ends in fourteen digits behind another byte
unfoldable pub ends_in_digits : List ℕ → Bool
ends_in_digits line = nat_lt 14 (length line) && list_all (λ c. is_digit c 10) (last_of line)

-- the instant that is asked for, or the local time, in nanoseconds
abbrev pub asked_number : Request → ℤ
asked_number (at name instant) = instant
asked_number (local name time) = time

-- what a request asks for with the last digits of another line in place of its own
abbrev pub with_last : ℤ → List ℕ → List ℕ → ℤ
with_last now text line = now -ℤ pos (digits_value 10 (last_of text)) +ℤ pos (digits_value 10 (last_of line))

-- a line with another time of day
abbrev pub at_time : List ℕ → ℕ → List ℕ
at_time line nanos = take 10 line ++ (32 ∷ time_text nanos) ++ drop 29 line

-- With last digits behind the front, numbers from one up to another ask for instants before the latest and are answered by the line with
-- another time of day, which is so many nanoseconds from midnight at the first.
pub record IsSameDay (names : List ℕ → Found) (latest : ℕ) (front : List ℕ) (day : SameDay) : Type 0 where
  pub ends : day.begins + day.until ≤ day.from + nanos_per_day
  pub each : (last : List ℕ) → AreLast last → day.from ≤ digits_value 10 last → digits_value 10 last < day.until
      → IsAnswered names latest (front ++ last) (at_time day.line (day.begins + (digits_value 10 last - day.from)))

-- one total is in force at each instant of the stretch's seconds
abbrev pub IsThroughout : (ℤ → ℤ) → Stretch → Type 0
IsThroughout total stretch = (t : ℤ) → nanos_of stretch.from ≤ℤ t → t <ℤ nanos_of stretch.until → total t ≡ stretch.offset

-- These instants lie around one: all on its local day in the stretch's seconds. It is so late on that day at the first.
pub record IsAround (stretch : Stretch) (now from until at_first : ℕ) : Type 0 where
  pub begun : from ≤ now
  pub lasts : now < until
  pub first : nanos_of stretch.from ≤ℤ pos from
  pub past : pos until ≤ℤ nanos_of stretch.until
  pub begins : at_first + now ≡ time_part (local_at (pos now) stretch.offset) + from
  pub day : at_first + until ≤ from + nanos_per_day
  pub only : (t : ℤ) → nanos_of stretch.from ≤ℤ t → t <ℤ nanos_of stretch.until
      → day_part (local_at t stretch.offset) ≡ day_part (local_at (pos now) stretch.offset) → (pos from ≤ℤ t) × (t <ℤ pos until)

-- An instant is on the day of another: before the latest, on that one's local day, and while what is in force there lasts.
pub record IsOnDay (begins ends total : ℤ → ℤ) (latest : ℕ) (now t : ℤ) : Type 0 where
  pub begun : nanos_of (begins (seconds_of now)) ≤ℤ t
  pub lasts : t <ℤ nanos_of (ends (seconds_of now))
  pub day : day_part (local_at t (total now)) ≡ day_part (local_at now (total now))
  pub early : t <ℤ pos latest

-- the line is alike that text of a request for an instant, ends in digits, and asks by them for an instant on its day
pub record IsOfDay (begins ends total : ℤ → ℤ) (latest : ℕ) (now : ℤ) (text line : List ℕ) : Type 0 where
  pub alike : are_alike text line ≡ true
  pub digits : ends_in_digits line ≡ true
  pub there : IsOnDay begins ends total latest now (with_last now text line)
