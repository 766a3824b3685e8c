-- Words in any case, in full or abbreviated to a beginning that fits one word of their list alone; a word in full is such a beginning, since no
-- word of a list begins another.
use Rattle.std.specs.{Prelude.{ℕ, List, [], ◌∷◌, drop, length, take, Bool, ◌&&◌, Option, Some, None, Result, ok_or, codes, bytes_eq, nat_le, filter, if◌then◌else◌}, Borrow.{Bor}}
pub use Rattle.zone_table.specs.{Months.{named_months as months}, Weekdays.{named_weekdays as weekdays}}
use Rattle.zone_table.specs.{Names.{lower}, declared.month.Month.{Month}, declared.weekday.Weekday.{Weekday}, declared.year.Year.{Year}, declared.year.Year.TheVariants.{Minimum, Maximum}}
use Rattle.zone_plain_lines.specs.declared.{cause.PlainCause.{PlainCause}, words.LineWord.{LineWord}, words.LineWord.TheVariants.{Rule, Zone, Link}}
use Rattle.zone_plain_lines.specs.declared.cause.PlainCause.TheVariants as cause

-- the text is a beginning of the word, in any case
abbrev pub begins : List ℕ → List ℕ → Bool
begins text word = nat_le (length text) (length word) && bytes_eq (lower text) (lower (take (length text) word))

-- a word, and what it stands for
abbrev pub Word : Type 0 → Type 0
Word A = List ℕ × A

-- what a list of one word stands for
abbrev pub alone : {A : Type 0} → List (Word A) → Option A
alone [] = None
alone (word ∷ []) = Some word.1
alone (word ∷ other ∷ more) = None

-- what the only word that the text begins stands for; a word in full is its own beginning
unfoldable pub meant : {A : Type 0} → List (Word A) → List ℕ → Option A
meant words text = alone (filter (λ word. begins text word.0) words)

-- a word as the code has it
abbrev pub shown : {A : Type 0} → Bor (List ℕ) × A → Word A
shown entry = (entry.0.now, entry.1)

abbrev pub line_words : List (Word LineWord)
line_words =
    (codes "Rule", Rule)
    ∷ (codes "Zone", Zone)
    ∷ (codes "Link", Link)
    ∷ []

-- the first word of a line
unfoldable pub line_word : List ℕ → Result LineWord PlainCause
line_word text = ok_or (meant line_words text) cause.LineType

unfoldable pub month_word : List ℕ → Option Month
month_word text = meant months text

unfoldable pub month_of : List ℕ → Result Month PlainCause
month_of text = ok_or (month_word text) cause.Month

unfoldable pub weekday_of : List ℕ → Option Weekday
weekday_of text = meant weekdays text

-- `last`, and the word of a weekday behind it
unfoldable pub last_weekday_of : List ℕ → Option Weekday
last_weekday_of text = if begins (codes "last") text then weekday_of (drop 4 text) else None

abbrev pub from_words : List (Word Year)
from_words =
    (codes "minimum", Minimum)
    ∷ (codes "maximum", Maximum)
    ∷ []

unfoldable pub from_word : List ℕ → Option Year
from_word text = meant from_words text

-- `only` is no year of its own
abbrev pub to_words : List (Word (Option Year))
to_words =
    (codes "minimum", Some Minimum)
    ∷ (codes "maximum", Some Maximum)
    ∷ (codes "only", None)
    ∷ []

unfoldable pub to_word : List ℕ → Option (Option Year)
to_word text = meant to_words text
