-- Times of day, offsets and savings, in seconds.
use Rattle.std.specs.Prelude.{ℕ, ◌+◌, ◌*◌, ◌/◌, ◌%◌, ◌-◌, ℤ, pos, neg_ℤ, Bool, true, false, ◌&&◌, ◌||◌, not, ◌==◌, List, [], ◌∷◌, length, slice_index, Option, Some, None, option_map, Result, Ok, Err, ok_or, codes, bytes_eq, nat_lt, if◌then◌else◌}
use Rattle.std.specs.{List.{list_all}, Option.{option_map_or}}
use Rattle.basics.specs.{Marks.{after_mark, before_mark, cut}, Numbers.{is_numeral}}
use Rattle.zone_table.specs.{Seconds.{with_type}, declared.time.TimeSpec.{TimeSpec}, declared.time.TimeSpec.TheVariants.{Hours, HoursMinutes, HoursMinutesSeconds}, declared.time.TimeType.{TimeType}, declared.time.TimeType.TheVariants.{Wall, Standard, UTC}, declared.time.TimeSpecAndType.{TimeSpecAndType}, Results.{◌>>=◌}}
use Rattle.zone_plain_lines.specs.{Numbers.{number_between}, Steps.{then_some}, declared.cause.PlainCause.{PlainCause}, declared.clock.Amount.{Amount}}
use Rattle.zone_plain_lines.specs.declared.cause.PlainCause.TheVariants as cause

-- a number of seconds with a sign
abbrev pub amount : Bool → ℕ → Amount
amount is_negative seconds = record { is_negative = is_negative; seconds = seconds }

-- a part of a time under its sign
abbrev pub part : Bool → ℕ → ℤ
part is_negative number = if is_negative then neg_ℤ (pos number) else pos number

-- the hours, the minutes, and the seconds where they aren't 0
unfoldable pub clock_spec : Amount → TimeSpec
clock_spec a =
    let hours = part a.is_negative (a.seconds / 3600) in
    let minutes = part a.is_negative (a.seconds / 60 % 60) in
    if a.seconds % 60 == 0 then HoursMinutes hours minutes
    else HoursMinutesSeconds hours minutes (part a.is_negative (a.seconds % 60))

-- of an amount 0 is hours alone
unfoldable pub amount_spec : Amount → TimeSpec
amount_spec a = if a.seconds == 0 then Hours (pos 0) else clock_spec a

abbrev pub are_zeros : List ℕ → Bool
are_zeros digits = list_all (λ digit. digit == 48) digits

-- the digits of a fraction say a half: a 5, and then zeros alone
abbrev pub is_half : List ℕ → Bool
is_half [] = false
is_half (first ∷ rest) = first == 53 && are_zeros rest

-- more than a half: above 5, or a 5 and then not zeros alone
abbrev pub is_above_half : List ℕ → Bool
is_above_half [] = false
is_above_half (first ∷ rest) = nat_lt 53 first || first == 53 && not (are_zeros rest)

-- to the nearest second, and of two that are as near to the even one
abbrev pub rounds_up : ℕ → List ℕ → Bool
rounds_up second fraction = is_above_half fraction || is_half fraction && second % 2 == 1

unfoldable pub rounded : List ℕ → List ℕ → Option ℕ
rounded second fraction = then_some (number_between 0 60 second) (λ number.
    if is_numeral fraction then Some (if rounds_up number fraction then number + 1 else number) else None)

-- s, or s.f
unfoldable pub second_of : List ℕ → Option ℕ
second_of text = option_map_or (λ parts. rounded parts.0 parts.1) (cut 46 text) (number_between 0 60 text)

abbrev pub minute_and : List ℕ → List ℕ → Option ℕ
minute_and minute rest = then_some (number_between 0 59 minute) (λ m. then_some (second_of rest) (λ s. Some (60 * m + s)))

-- m, or m:s, in seconds
unfoldable pub minutes_below : List ℕ → Option ℕ
minutes_below text =
    option_map_or (λ parts. minute_and parts.0 parts.1) (cut 58 text) (option_map (λ m. 60 * m) (number_between 0 59 text))

abbrev pub hour_and : List ℕ → List ℕ → Option ℕ
hour_and hour rest = then_some (number_between 0 99 hour) (λ h. then_some (minutes_below rest) (λ below. Some (3600 * h + below)))

-- h, h:m or h:m:s, in seconds
unfoldable pub unsigned : List ℕ → Option ℕ
unsigned text =
    option_map_or (λ parts. hour_and parts.0 parts.1) (cut 58 text) (option_map (λ h. 3600 * h) (number_between 0 99 text))

-- a hyphen is 0; else a hyphen in front is a minus
unfoldable pub clock_of : List ℕ → Option Amount
clock_of text =
    if bytes_eq text (codes "-") then Some (amount false 0)
    else option_map_or (λ rest. option_map (amount true) (unsigned rest)) (after_mark 45 text) (option_map (amount false) (unsigned text))

unfoldable pub amount_of : List ℕ → Result Amount PlainCause
amount_of text = ok_or (clock_of text) cause.Time

abbrev pub daylight_of : Result Amount PlainCause → Result Amount PlainCause
daylight_of (Ok a) = if a.seconds == 0 then Err cause.Saving else Ok a
daylight_of (Err e) = Err e

abbrev pub standard_of : Result Amount PlainCause → Result Amount PlainCause
standard_of (Ok a) = if a.seconds == 0 then Ok a else Err cause.Saving
standard_of (Err e) = Err e

-- `d` is what an amount is that isn't 0, and `s` what 0 is; else they say which time is standard
unfoldable pub saved : List ℕ → Result Amount PlainCause
saved text =
    option_map_or (λ daylight. daylight_of (amount_of daylight)) (before_mark 100 text)
    (option_map_or (λ standard. standard_of (amount_of standard)) (before_mark 115 text) (amount_of text))

-- the clock that a mark names, in either case
abbrev pub clock_marked : ℕ → Option TimeType
clock_marked mark =
    if mark == 119 || mark == 87 then Some Wall
    else if mark == 115 || mark == 83 then Some Standard
    else if mark == 117 || mark == 85 || mark == 103 || mark == 71 || mark == 122 || mark == 90 then Some UTC
    else None

-- 0 where there is none
abbrev pub last_byte : List ℕ → ℕ
last_byte text = slice_index text (length text - 1)

-- the time without its mark, and the clock that the mark names
unfoldable pub marked : List ℕ → List ℕ × TimeType
marked text = option_map_or
    (λ clock. option_map_or (λ time. (time, clock)) (before_mark (last_byte text) text) (text, Wall))
    (clock_marked (last_byte text))
    (text, Wall)

unfoldable pub at_of : List ℕ → Result TimeSpecAndType PlainCause
at_of text = do
  a ← amount_of (marked text).0
  Ok (with_type (clock_spec a) (marked text).1)
