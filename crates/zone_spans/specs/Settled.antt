-- Rules of which none begins or ends after 2099.
use Rattle.std.specs.{Prelude.{◌≡◌, Bool, true, false, ◌&&◌, List, [], ◌∷◌, filter, pos, int_le}, List.{list_all}}
use Rattle.zone_table.specs.{declared.{time.TimeType.{TimeType}, year.Year.{Year}, year.Year.TheVariants.{Minimum, Maximum, Number}}, Moments.{is_at_most, last_year}, declared.rule.RuleInfo.{RuleInfo}}

abbrev pub is_max : Year → Bool
is_max Maximum = true
is_max _ = false

-- the rule has no last year
unfoldable pub is_lasting : RuleInfo → Bool
is_lasting rule = is_max (last_year rule)

-- a last year is `max`, or 2099 or before
abbrev pub is_settled_end : Year → Bool
is_settled_end Minimum = true
is_settled_end Maximum = true
is_settled_end (Number n) = int_le n (pos 2099)

-- the rule begins in 2099 or before, and ends there or never
unfoldable pub is_settled : RuleInfo → Bool
is_settled rule = is_at_most rule.from_year (pos 2099) && is_settled_end (last_year rule)

abbrev pub are_settled : List RuleInfo → Bool
are_settled rules = list_all is_settled rules

-- those of them that have no last year
abbrev pub lasting : List RuleInfo → List RuleInfo
lasting rules = filter is_lasting rules

-- all of the rules go by that clock
abbrev pub HaveClock : TimeType → List RuleInfo → Type 0
HaveClock clock [] = Unit {0}
HaveClock clock (r ∷ rs) = (r.time_type ≡ clock) × HaveClock clock rs
