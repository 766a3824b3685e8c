-- Rules and zone lines whose numbers are small: each day number is from 1 to 31, and each amount of seconds at most
-- 1,000,000 in size.
use Rattle.std.specs.{Prelude.{Bool, true, ◌&&◌}, Option.{option_map_or}}
use Rattle.zone_table.specs.{LineBounds.{are_small_seconds}, Days.{has_day_of_month}, Ends.{end_day}, declared.{rule.RuleInfo.{RuleInfo}, zone.Saving.{Saving}, zone.Saving.TheVariants.{OneOff}, zone.ZoneInfo.{ZoneInfo}}}

abbrev pub is_bounded_rule : RuleInfo → Bool
is_bounded_rule rule = has_day_of_month rule.day && are_small_seconds rule.time && are_small_seconds rule.time_to_add

abbrev pub is_bounded_saving : Saving → Bool
is_bounded_saving (OneOff amount) = are_small_seconds amount
is_bounded_saving _ = true

-- where an end has no day of its own, it is the first
abbrev pub is_bounded_info : ZoneInfo → Bool
is_bounded_info info = are_small_seconds info.offset
    && is_bounded_saving info.saving
    && option_map_or (λ end. has_day_of_month (end_day end)) info.end_time true
