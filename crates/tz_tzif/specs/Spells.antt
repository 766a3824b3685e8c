-- The texts of footers: those of the grammar of POSIX TZ strings where a time of a rule may have a sign, so it is written as an
-- offset is, and where daylight saving time has a rule.
use Rattle.std.specs.Prelude.{ℕ, List}
use Rattle.tz_posix.specs.Spells.{SpellsIn, signed_times}
use Rattle.tz_tzif.specs.Values.{FooterValue, tz_of}

abbrev pub SpellsFooter : List ℕ → FooterValue → Type 0
SpellsFooter text value = SpellsIn signed_times text (tz_of value)
