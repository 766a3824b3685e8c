-- The value of a time column.
use Rattle.std.specs.{Prelude.{ℕ, ℤ, pos, neg_ℤ, List, [], ◌∷◌, Bool, ◌||◌, Option, Some, None, option_map, option_and_then, codes, bytes_eq, nat_eq, if◌then◌else◌, ◌^◌}, Char.{is_ascii_digit}, List.{list_all, list_any}, Option.{option_map_or}}
use Rattle.zone_line.specs.{Options.{◌>>=◌, first_some}, Digits.{two_digits}, Clocks.{ClockTexts, clock_in}}
use Rattle.basics.specs.Numbers.{signed_in}
use Rattle.zone_table.specs.{Seconds.{with_type}, declared.time.TimeSpec.{TimeSpec}, declared.time.TimeSpec.TheVariants.{Hours, HoursMinutes, HoursMinutesSeconds, Zero}, declared.time.TimeType.{TimeType}, declared.time.{TimeType.TheVariants.{Wall, Standard, UTC}, TimeSpecAndType.{TimeSpecAndType}}}

-- a hyphen is no time at all
abbrev pub no_time : List ℕ → Option TimeSpecAndType
no_time text = if bytes_eq text (codes "-") then Some (with_type Zero Wall) else None

-- the text is of hyphens and ASCII digits alone
abbrev pub is_bare : List ℕ → Bool
is_bare text = list_all (λ c. nat_eq c 45 || is_ascii_digit c) text

-- such a text is a number of hours, where Rust reads it as one of 8 bits
abbrev pub hours_alone : List ℕ → Option TimeSpecAndType
hours_alone text =
    if is_bare text
    then option_map (λ hours. with_type (Hours hours) Wall) (signed_in (2 ^ 7) text)
    else None

-- the sign holds for every part
abbrev pub signed : List ℕ → ℕ → ℤ
signed sign part = if bytes_eq sign (codes "-") then neg_ℤ (pos part) else pos part

-- the clock that a flag names: none and `w` the wall's, `s` standard time, `u`, `g` and `z` universal time
abbrev pub clock_type : Option (List ℕ) → TimeType
clock_type None = Wall
clock_type (Some flag) =
    if bytes_eq flag (codes "s") then Standard
    else if list_any (bytes_eq flag) (codes "u" ∷ codes "g" ∷ codes "z" ∷ []) then UTC
    else Wall

-- a time with a colon, where each part is one or two ASCII digits; a digit of another script makes it no time
unfoldable pub clock_time : ClockTexts → Option TimeSpec
clock_time c = do
  hour ← two_digits c.hour
  minute ← two_digits c.minute
  option_map_or
      (λ text. option_map (λ second. HoursMinutesSeconds (signed c.sign hour) (signed c.sign minute) (signed c.sign second))
      (two_digits text))
      c.second
      (Some (HoursMinutes (signed c.sign hour) (signed c.sign minute)))

abbrev pub if_by_wall : TimeType → TimeSpec → Option TimeSpec
if_by_wall Wall time = Some time
if_by_wall _ time = None

-- the time, where its clock is the wall's
abbrev pub if_wall : TimeSpecAndType → Option TimeSpec
if_wall time = if_by_wall time.1 time.0

-- the first of the three that the text is
unfoldable pub time_of : List ℕ → Option TimeSpecAndType
time_of text = first_some (no_time text ∷ hours_alone text
    ∷ option_and_then (λ c. option_map (λ time. with_type time (clock_type c.flag)) (clock_time c)) (clock_in text) ∷ [])
