-- The texts of times, each whole text cut into its parts.
use Rattle.std.specs.{Prelude.{◌≡◌, ℕ, ◌<◌, ◌≤◌, true, false, List, [], ◌∷◌, ◌++◌, length, ℤ, pos, Option, Some, None, codes}, Char.{is_ascii_digit}, List.{list_all}}
use Rattle.basics.specs.Days.{IsDate}
use Rattle.civil_base.specs.{Clock.{IsClockTime}, Instants.{instant_at}, Layout.{two_digits, four_digits}, Ranges.{IsInYears}}
use Rattle.zone_words.specs.{Numbers.{is_separator, is_utc, number_after, fraction_of, moment, seconds_east, counted}, declared.form.WrittenDate.{WrittenDate}, declared.form.WrittenTime.{WrittenTime}, declared.form.WrittenOffset.{WrittenOffset}}

-- `YYYY-MM-DD`
pub data SpellsDate : List ℕ → WrittenDate → Type 0 where
  date : {y m d : ℕ} → y < 10000 → m < 100 → d < 100 →
      SpellsDate (four_digits y ++ 45 ∷ two_digits m ++ 45 ∷ two_digits d) (record { year = y; month = m; day = d })

-- `hh:mm`, of a time whose seconds are 0
pub data SpellsMinute : List ℕ → WrittenTime → Type 0 where
  minute : {h m : ℕ} → h < 100 → m < 100 →
      SpellsMinute (two_digits h ++ 58 ∷ two_digits m) (record { hour = h; minute = m; second = 0; nanosecond = 0 })

-- one to nine digits
pub record AreFraction (text : List ℕ) : Type 0 where
  pub some : 0 < length text
  pub most : length text ≤ 9
  pub digits : list_all is_ascii_digit text ≡ true

-- nothing, or `.` and digits; in nanoseconds
pub data SpellsFraction : List ℕ → ℕ → Type 0 where
  whole : SpellsFraction [] 0
  digits : {a : List ℕ} → AreFraction a → SpellsFraction (46 ∷ a) (fraction_of a)

-- `hh:mm:ss`, maybe with a fraction
pub data SpellsTime : List ℕ → WrittenTime → Type 0 where
  time : {a b : List ℕ} {t : WrittenTime} {s n : ℕ} → SpellsMinute a t → s < 100 → SpellsFraction b n →
      SpellsTime (a ++ 58 ∷ two_digits s ++ b) (record { hour = t.hour; minute = t.minute; second = s; nanosecond = n })

-- the calendar has the date, and a clock shows the time
pub record Exist (d : WrittenDate) (t : WrittenTime) : Type 0 where
  pub date : IsDate (pos d.year) d.month d.day
  pub time : IsClockTime t.hour t.minute t.second t.nanosecond

-- a date, a separator and a time of day, with or without seconds
pub data SpellsLocal : List ℕ → ℤ → Type 0 where
  to_minute : {a b : List ℕ} {d : WrittenDate} {t : WrittenTime} (c : ℕ) → SpellsDate a d → is_separator c ≡ true → SpellsMinute b t →
      Exist d t → SpellsLocal (a ++ c ∷ b) (moment d t)
  to_second : {a b : List ℕ} {d : WrittenDate} {t : WrittenTime} (c : ℕ) → SpellsDate a d → is_separator c ≡ true → SpellsTime b t →
      Exist d t → SpellsLocal (a ++ c ∷ b) (moment d t)

-- `Z`, `z`, `+hh:mm` or `-hh:mm`, of less than 24 hours
pub data SpellsOffset : List ℕ → WrittenOffset → Type 0 where
  utc : {c : ℕ} → is_utc c ≡ true → SpellsOffset (c ∷ []) (record { west = false; hours = 0; minutes = 0 })
  east : {h m : ℕ} → h < 24 → m < 60 → SpellsOffset (43 ∷ two_digits h ++ 58 ∷ two_digits m) (record { west = false; hours = h; minutes = m })
  west : {h m : ℕ} → h < 24 → m < 60 → SpellsOffset (45 ∷ two_digits h ++ 58 ∷ two_digits m) (record { west = true; hours = h; minutes = m })

-- one digit or more; a whole number
pub record AreDigits (text : List ℕ) (n : ℕ) : Type 0 where
  pub some : 0 < length text
  pub digits : list_all is_ascii_digit text ≡ true
  pub value : number_after 0 text ≡ n

-- an instant as people and logs write it, its date in the years by UTC
pub data SpellsInstant : List ℕ → ℤ → Type 0 where
  since : {a b : List ℕ} {n f : ℕ} → AreDigits a n → SpellsFraction b f → IsInYears (counted false n f) →
      SpellsInstant (64 ∷ a ++ b) (counted false n f)
  before : {a b : List ℕ} {n f : ℕ} → AreDigits a n → SpellsFraction b f → IsInYears (counted true n f) →
      SpellsInstant (64 ∷ 45 ∷ a ++ b) (counted true n f)
  zoned : {a b z : List ℕ} {d : WrittenDate} {t : WrittenTime} {o : WrittenOffset} (c : ℕ) → SpellsDate a d → is_separator c ≡ true → SpellsTime b t →
      Exist d t → SpellsOffset z o → IsInYears (instant_at (moment d t) (seconds_east o)) →
      SpellsInstant (a ++ c ∷ b ++ z) (instant_at (moment d t) (seconds_east o))

-- `now`, or an instant
pub data SpellsAsked : List ℕ → Option ℤ → Type 0 where
  now : SpellsAsked (codes "now") None
  instant : {a : List ℕ} {t : ℤ} → SpellsInstant a t → SpellsAsked a (Some t)
