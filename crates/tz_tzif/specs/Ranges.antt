-- The ranges of a footer's parts.
use Rattle.std.specs.Prelude.{◌≡◌, ℕ, List, Option, None}
use Rattle.tz_posix.specs.{Ranges.{first_miss}, Spells.{signed_times}, declared.error.RangeError.{RangeError}}
use Rattle.tz_tzif.specs.{Spells.{SpellsFooter}, Values.{FooterValue, tz_of}}

-- the first part that is out of its range
abbrev pub footer_miss : FooterValue → Option RangeError
footer_miss value = first_miss signed_times (tz_of value)

-- the value of a footer that has all parts in their ranges
pub record IsFooterOf (text : List ℕ) (value : FooterValue) : Type 0 where
  pub spelled : SpellsFooter text value
  pub range : footer_miss value ≡ None
