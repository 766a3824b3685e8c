-- Lines whose numbers are small: each day number is from 1 to 31, and each amount of seconds at most 1,000,000 in size.
use Rattle.std.specs.{Prelude.{ℤ, pos, neg_ℤ, int_le, Bool, true, ◌&&◌}, Option.{option_map_or}}
use Rattle.zone_table.specs.{Days.{has_day_of_month}, Ends.{end_day, end_seconds}, Seconds.{seconds_of}, Values.{SavingValue, one_off, InfoValue, RuleValue, LineValue, space, zone, continuation, rule, link}, declared.change.ChangeTime.{ChangeTime}}

abbrev pub are_small_seconds : ℤ → Bool
are_small_seconds seconds = int_le (neg_ℤ (pos 1000000)) seconds && int_le seconds (pos 1000000)

abbrev pub is_bounded_end : ChangeTime → Bool
is_bounded_end end = has_day_of_month (end_day end) && are_small_seconds (end_seconds end)

abbrev pub is_bounded_saving : SavingValue → Bool
is_bounded_saving (one_off amount) = are_small_seconds (seconds_of amount)
is_bounded_saving _ = true

abbrev pub is_bounded_info : InfoValue → Bool
is_bounded_info info = are_small_seconds (seconds_of info.utc_offset)
    && is_bounded_saving info.saving
    && option_map_or is_bounded_end info.time true

abbrev pub is_bounded_rule : RuleValue → Bool
is_bounded_rule r = has_day_of_month r.day
    && are_small_seconds (seconds_of r.time.0)
    && are_small_seconds (seconds_of r.time_to_add)

abbrev pub is_bounded_line : LineValue → Bool
is_bounded_line space = true
is_bounded_line (zone name info) = is_bounded_info info
is_bounded_line (continuation info) = is_bounded_info info
is_bounded_line (rule r) = is_bounded_rule r
is_bounded_line (link existing new) = true
