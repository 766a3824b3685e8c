-- The parts of a time with a colon, as its named groups take them.
use Rattle.std.specs.Prelude.{ℕ, List, [], ◌∷◌, Option, Some, None, option_and_then, codes}
use Rattle.zone_line.specs.{Options.{◌>>=◌, first_some}, Patterns.{match_in, group_in}, Texts.{hm_text, hms_text}}

pub record ClockTexts : Type 0 where
  pub sign : List ℕ
  pub hour : List ℕ
  pub minute : List ℕ
  pub second : Option (List ℕ)
  pub flag : Option (List ℕ)

-- the parts of hours and minutes
unfoldable pub minute_clock_of : (List ℕ → Option (List ℕ)) → Option ClockTexts
minute_clock_of part = do
  sign ← part (codes "sign")
  hour ← part (codes "hour")
  minute ← part (codes "minute")
  Some (record { sign = sign; hour = hour; minute = minute; second = None; flag = part (codes "flag") })

-- the parts of hours, minutes and seconds
unfoldable pub second_clock_of : (List ℕ → Option (List ℕ)) → Option ClockTexts
second_clock_of part = do
  sign ← part (codes "sign")
  hour ← part (codes "hour")
  minute ← part (codes "minute")
  second ← part (codes "second")
  Some (record { sign = sign; hour = hour; minute = minute; second = Some second; flag = part (codes "flag") })

unfoldable pub minute_clock : List ℕ → Option ClockTexts
minute_clock text = option_and_then (λ m. minute_clock_of (group_in hm_text text m)) (match_in hm_text text)

unfoldable pub second_clock : List ℕ → Option ClockTexts
second_clock text = option_and_then (λ m. second_clock_of (group_in hms_text text m)) (match_in hms_text text)

-- the parts of a time with one colon or two
abbrev pub clock_in : List ℕ → Option ClockTexts
clock_in text = first_some (minute_clock text ∷ second_clock text ∷ [])
