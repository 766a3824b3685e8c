-- The values that words spell, or the fault of the word.
use Rattle.std.specs.{Prelude.{ℕ, List, [], ◌∷◌, ◌++◌, Option, Some, None, Result, Ok, Err, ℤ, nat_le, nat_lt, codes, if◌then◌else◌}, Option.{option_map_or}}
use Rattle.civil_base.specs.Layout.{day_part, time_part}
use Rattle.basics.specs.Numbers.{is_numeral, value_in}
use Rattle.zone_words.specs.{Readings.{asked_in, local_in}, declared.text_fault.TextFault.{TextFault}, declared.text_fault.TextFault.TheVariants.{NoSuchDate, DateMissing}, Faults.{Reading, wrong, ◌>>=◌}, declared.fault.WordCause.TheVariants.{TooFew, TooMany, Number, Year, Text}}

-- a text's value, or its fault as that of a word
abbrev pub of_word : {A : Type 0} → List ℕ → Result A TextFault → Reading A
of_word word (Ok value) = Ok value
of_word word (Err fault) = wrong word (Text fault)

-- all that a date can lack is told as its want, or that there is no such date
abbrev pub date_cause : TextFault → TextFault
date_cause NoSuchDate = NoSuchDate
date_cause _ = DateMissing

abbrev pub date_of : List ℕ → Result ℤ TextFault → Reading ℤ
date_of word (Ok local) = Ok (day_part local)
date_of word (Err fault) = wrong word (Text (date_cause fault))

-- `YYYY-MM-DD`, which is the date of its midnight
unfoldable pub date_in : List ℕ → Reading ℤ
date_in word = date_of word (local_in (word ++ 32 ∷ codes "00:00"))

abbrev pub time_of : List ℕ → Result ℤ TextFault → Reading ℕ
time_of word (Ok local) = Ok (time_part local)
time_of word (Err fault) = wrong word (Text fault)

-- `hh:mm`, maybe with seconds and a fraction, as on any day
unfoldable pub time_in : List ℕ → Reading ℕ
time_in word = time_of word (local_in (codes "2000-01-01" ++ 32 ∷ word))

-- a local time in one word
abbrev pub of_one : List ℕ → Reading ℤ
of_one text = of_word text (local_in text)

abbrev pub of_words : List ℕ → List ℕ → Result ℤ TextFault → Reading ℤ
of_words date time (Ok local) = Ok local
of_words date time (Err fault) = Err (record { word = date; more = Some time; cause = Text fault })

-- and in two
abbrev pub of_two : List ℕ → List ℕ → Reading ℤ
of_two date time = of_words date time (local_in (date ++ 32 ∷ time))

-- the local time that is all that is left of a command's words
abbrev pub text_in : List ℕ → List (List ℕ) → Reading ℤ
text_in command [] = wrong command TooFew
text_in command (text ∷ []) = of_one text
text_in command (date ∷ time ∷ []) = of_two date time
text_in command (date ∷ time ∷ more ∷ words) = wrong more TooMany

-- an instant, or now, which is none of its own
abbrev pub instant_in : List ℕ → Reading (Option ℤ)
instant_in word = of_word word (asked_in word)

-- the instants of words, behind those that were found
abbrev pub instants_in : List (Option ℤ) → List (List ℕ) → Reading (List (Option ℤ))
instants_in found [] = Ok found
instants_in found (word ∷ words) = instant_in word >>= (λ t. instants_in (found ++ t ∷ []) words)

-- a number of 16 bits in ASCII digits
abbrev pub digits_in : List ℕ → Option ℕ
digits_in word = if is_numeral word then value_in 16 word else None

abbrev pub from_one : Option ℕ → Option ℕ
from_one (Some number) = if nat_lt 0 number then Some number else None
from_one None = None

-- a number from 1 to 65,535 in ASCII digits
unfoldable pub number_of : List ℕ → Option ℕ
number_of word = from_one (digits_in word)

abbrev pub number_in : List ℕ → Reading ℕ
number_in word = option_map_or (λ number. Ok number) (number_of word) (wrong word Number)

abbrev pub up_to_9999 : Option ℕ → Option ℕ
up_to_9999 (Some year) = if nat_le year 9999 then Some year else None
up_to_9999 None = None

-- a year in ASCII digits
unfoldable pub year_of : List ℕ → Option ℕ
year_of word = up_to_9999 (digits_in word)

abbrev pub year_in : List ℕ → Reading ℕ
year_in word = option_map_or (λ year. Ok year) (year_of word) (wrong word Year)
