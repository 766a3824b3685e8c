-- When rules fire.
use Rattle.std.specs.Prelude.{ℤ, pos, ◌+ℤ◌, ◌-ℤ◌, ◌*ℤ◌, int_le, Bool, true, false, ◌&&◌, Option, Some, unwrap_or}
use Rattle.zone_table.specs.{Days.{named_day}, declared.time.TimeType.{TimeType}, declared.time.TimeType.TheVariants.{Wall, Standard, UTC}, declared.year.Year.{Year}, declared.year.Year.TheVariants.{Minimum, Maximum, Number}, declared.rule.RuleInfo.{RuleInfo}}

-- the year is a number
abbrev pub is_number : Year → Bool
is_number (Number n) = true
is_number _ = false

-- the last year of a rule is not the first of all years
abbrev pub has_last_year : Option Year → Bool
has_last_year (Some Minimum) = false
has_last_year _ = true

abbrev pub has_years : RuleInfo → Bool
has_years rule = is_number rule.from_year && has_last_year rule.to_year

-- the first of two years is at most the second, which is a number; the first of all years is below each, the last above
abbrev pub is_at_most : Year → ℤ → Bool
is_at_most Minimum year = true
is_at_most Maximum year = false
is_at_most (Number n) year = int_le n year

abbrev pub is_at_least : Year → ℤ → Bool
is_at_least Minimum year = false
is_at_least Maximum year = true
is_at_least (Number n) year = int_le year n

-- the last year of a rule; where it has none of its own it is the first
unfoldable pub last_year : RuleInfo → Year
last_year rule = unwrap_or rule.to_year rule.from_year

unfoldable pub applies_to_year : RuleInfo → ℤ → Bool
applies_to_year rule year = is_at_most rule.from_year year && is_at_least (last_year rule) year

-- what a clock shows, in universal time: the wall's clock is ahead by the offset and the saving, that of standard time by
-- the offset
unfoldable pub instant_of : TimeType → ℤ → ℤ → ℤ → ℤ
instant_of UTC local utc_offset dst_offset = local
instant_of Standard local utc_offset dst_offset = local -ℤ utc_offset
instant_of Wall local utc_offset dst_offset = local -ℤ (utc_offset +ℤ dst_offset)

-- when the clock of the rule shows its time on its day of that year
unfoldable pub moment : RuleInfo → ℤ → ℤ → ℤ → ℤ
moment rule year utc_offset dst_offset =
    instant_of rule.time_type (pos 86400 *ℤ named_day rule.day year rule.month +ℤ rule.time) utc_offset dst_offset
