-- What a whole text is read as, or the first fault: its form from the left to the right, then what doesn't exist.
use Rattle.std.specs.{Prelude.{ℕ, ◌^◌, min, Bool, true, false, ◌&&◌, List, [], ◌∷◌, length, Option, Some, None, Result, Ok, Err, is_ok, is_some, ok_or}, Prelude.{nat_le, nat_lt, nat_eq, if◌then◌else◌, ℤ, pos, bytes_eq, codes}, Char.{is_ascii_digit}}
use Rattle.std.specs.{Option.{option_map_or}, Result.{result_map_both}, Borrow.{Bor}}
use Rattle.basics.specs.{Days.{days_in_month}, Marks.{after_mark}}
use Rattle.civil_base.specs.{Instants.{instant_at}, Ranges.{is_in_years}}
use Rattle.zone_words.specs.{Numbers.{fraction_of, moment, number_after, seconds_east, counted}, Pieces.{date_at, separator_at, minute_at, second_at, offset_at, run_of, after_run}, declared.text_fault.TextFault.{TextFault}, declared.text_fault.TextFault.TheVariants.{MarkMissing, DateMissing, ClockMissing, HourShort, TimeMissing, SecondMissing, FractionMissing, TooFine}, declared.{text_fault.TextFault.TheVariants.{OffsetMissing, CountMissing, OffsetThere, Trailing, NoSuchDate, NoSuchTime, OffsetRange, OutOfYears}, form.WrittenDate.{WrittenDate}, form.WrittenTime.{WrittenTime}}, declared.form.{WrittenOffset.{WrittenOffset}, WrittenInstant.{WrittenInstant}, WrittenCount.{WrittenCount}}}

infixl 10 ◌>>=◌
abbrev pub ◌>>=◌ : {A B : Type 0} → Result A TextFault → (A → Result B TextFault) → Result B TextFault
◌>>=◌ (Ok x) next = next x
◌>>=◌ (Err e) next = Err e

-- a value and the rest, as the code gives them
abbrev pub told_as : {V : Type 0} → Result (V × Bor (List ℕ)) TextFault → Result (V × List ℕ) TextFault
told_as result = result_map_both (λ x. (x.0, x.1.now)) (λ e. e) result

-- a fraction of one to nine digits, and the rest
unfoldable pub digits_at : List ℕ → Result (ℕ × List ℕ) TextFault
digits_at text =
    if nat_eq (length (run_of text)) 0 then Err FractionMissing
    else (if nat_lt 9 (length (run_of text)) then Err TooFine else Ok (fraction_of (run_of text), after_run text))

-- `.` and a fraction, or nothing
unfoldable pub fraction_at : List ℕ → Result (ℕ × List ℕ) TextFault
fraction_at text = option_map_or digits_at (after_mark 46 text) (Ok (0, text))

-- what is no hour and minute: an hour may have one digit
abbrev pub time_cause : List ℕ → TextFault
time_cause [] = TimeMissing
time_cause (c ∷ []) = TimeMissing
time_cause (c ∷ d ∷ rest) = if is_ascii_digit c && nat_eq d 58 then HourShort else TimeMissing

-- a date, a separator, an hour and a minute
unfoldable pub front_at : List ℕ → Result ((WrittenDate × WrittenTime) × List ℕ) TextFault
front_at text = do
  date ← ok_or (date_at text) DateMissing
  time ← ok_or (separator_at date.1) TimeMissing
  minute ← ok_or (minute_at time) (time_cause time)
  Ok ((date.0, record { hour = minute.0.0; minute = minute.0.1; second = 0; nanosecond = 0 }), minute.1)

-- the second of a time and maybe a fraction
unfoldable pub seconds_at : WrittenTime → List ℕ → Result (WrittenTime × List ℕ) TextFault
seconds_at time text = do
  second ← ok_or (second_at text) SecondMissing
  fraction ← fraction_at second.1
  Ok (record { hour = time.hour; minute = time.minute; second = second.0; nanosecond = fraction.0 }, fraction.1)

-- nothing may follow
abbrev pub ended : {V : Type 0} → TextFault → (V × List ℕ) → Result V TextFault
ended fault read = if nat_eq (length read.1) 0 then Ok read.0 else Err fault

-- the calendar has such a date, of the years 0 to 9999
abbrev pub is_date : WrittenDate → Bool
is_date d = nat_lt d.year 10000 && (nat_le 1 d.month && (nat_le d.month 12 && (nat_le 1 d.day && nat_le d.day (days_in_month (pos d.year) d.month))))

-- a clock shows such a time
abbrev pub is_time : WrittenTime → Bool
is_time t = nat_lt t.hour 24 && (nat_lt t.minute 60 && (nat_lt t.second 60 && nat_lt t.nanosecond 1000000000))

unfoldable pub moment_in : WrittenDate → WrittenTime → Result ℤ TextFault
moment_in d t = if is_date d then (if is_time t then Ok (moment d t) else Err NoSuchTime) else Err NoSuchDate

-- what follows a local time: an offset, or anything else
abbrev pub after_time : List ℕ → TextFault
after_time rest = if is_some (offset_at rest) then OffsetThere else Trailing

-- `YYYY-MM-DD hh:mm`, maybe `:ss`, maybe a fraction
unfoldable pub local_in : List ℕ → Result ℤ TextFault
local_in text = do
  front ← front_at text
  whole ← (option_map_or (λ _. seconds_at front.0.1 front.1) (after_mark 58 front.1) (Ok (front.0.1, front.1)))
  time ← ended (after_time whole.1) whole
  moment_in front.0.0 time

-- an offset of less than 24 hours
abbrev pub is_offset : WrittenOffset → Bool
is_offset o = nat_lt o.hours 24 && nat_lt o.minutes 60

-- the instant, where its date lies in the years by UTC
unfoldable pub in_years : ℤ → Result ℤ TextFault
in_years t = if is_in_years t then Ok t else Err OutOfYears

-- the form of RFC 3339 at the front
unfoldable pub zoned_at : List ℕ → Result (WrittenInstant × List ℕ) TextFault
zoned_at text = do
  front ← front_at text
  time ← seconds_at front.0.1 front.1
  offset ← ok_or (offset_at time.1) OffsetMissing
  Ok (record { date = front.0.0; time = time.0; offset = offset.0 }, offset.1)

unfoldable pub zoned_in : WrittenInstant → Result ℤ TextFault
zoned_in form = do
  local ← moment_in form.date form.time
  if is_offset form.offset then in_years (instant_at local (seconds_east form.offset)) else Err OffsetRange

-- a number of seconds; all that are more than any instant has count as 10^25
abbrev pub count_of : List ℕ → ℕ
count_of digits = min (number_after 0 digits) (10 ^ 25)

-- seconds from 1970 on or, behind a `-`, before it, and maybe a fraction
unfoldable pub size_at : Bool → List ℕ → Result (WrittenCount × List ℕ) TextFault
size_at before text =
    if nat_eq (length (run_of text)) 0 then Err CountMissing
    else (do
      fraction ← fraction_at (after_run text)
      Ok (record { before = before; seconds = count_of (run_of text); nanosecond = fraction.0 }, fraction.1))

unfoldable pub count_at : List ℕ → Result (WrittenCount × List ℕ) TextFault
count_at text = option_map_or (size_at true) (after_mark 45 text) (size_at false text)

unfoldable pub count_in : WrittenCount → Result ℤ TextFault
count_in form = in_years (counted form.before form.seconds form.nanosecond)

-- an instant: `@` and a count, or a text of RFC 3339
unfoldable pub counted_in : List ℕ → Result ℤ TextFault
counted_in text = do
  read ← count_at text
  form ← ended Trailing read
  count_in form

unfoldable pub written_in : List ℕ → Result ℤ TextFault
written_in text = do
  read ← zoned_at text
  form ← ended Trailing read
  zoned_in form

-- a count, from the first byte to the last
abbrev pub is_count : List ℕ → Bool
is_count text = is_ok (count_at text >>= ended Trailing)

-- of a text without a date, that a count lacks its `@`; of a date alone, that an instant wants more than a local time
abbrev pub instant_cause : List ℕ → TextFault → TextFault
instant_cause text DateMissing = if is_count text then MarkMissing else DateMissing
instant_cause text TimeMissing = ClockMissing
instant_cause text fault = fault

unfoldable pub instant_in : List ℕ → Result ℤ TextFault
instant_in text = option_map_or counted_in (after_mark 64 text) (result_map_both (λ t. t) (instant_cause text) (written_in text))

-- `now`, which is no instant of its own, or an instant
unfoldable pub asked_in : List ℕ → Result (Option ℤ) TextFault
asked_in text = if bytes_eq text (codes "now") then Ok None else (do
  instant ← instant_in text
  Ok (Some instant))
