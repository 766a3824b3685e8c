-- Lines whose numbers are small: each day number is from 1 to 31, and each amount of seconds at most 1,000,000 in size.
pub use Rattle.zone_table.specs.LineBounds.{are_small_seconds, is_bounded_end, is_bounded_saving, is_bounded_info, is_bounded_rule, is_bounded_line}
