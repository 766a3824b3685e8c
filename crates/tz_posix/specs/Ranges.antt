-- Which parts of a value are in their ranges, and the first that isn't.
use Rattle.std.specs.Prelude.{ℕ, Bool, ◌&&◌, nat_le, List, [], ◌∷◌, Option, Some, None, option_and_then, if◌then◌else◌}
use Rattle.tz_posix.specs.{Seconds.{part}, Spells.{TimeRange, day_times}, Values.{TzValue, Value, short, expanded}, declared.date.Date.{Date}, declared.date.Date.TheVariants.{J, N, M}, declared.error.RangeError.{RangeError}, declared.time.Offset.{Offset}}
use Rattle.tz_posix.specs.declared.{time.Time.{Time}, values.Rule.{Rule}}
use Rattle.tz_posix.specs.declared.error.RangeError.TheVariants as miss

-- from the least to the greatest
abbrev pub is_from : ℕ → ℕ → ℕ → Bool
is_from least greatest n = nat_le least n && nat_le n greatest

-- so many hours at most, and minutes and seconds of a clock
abbrev pub is_time : ℕ → Time → Bool
is_time hours time = nat_le time.hh hours && nat_le (part time.mm) 59 && nat_le (part time.ss) 59

abbrev pub is_rule_date : Date → Bool
is_rule_date (J n) = is_from 1 365 n
is_rule_date (N n) = nat_le n 365
is_rule_date (M m n d) = is_from 1 12 m && is_from 1 5 n && nat_le d 6

abbrev pub time_miss : ℕ → Time → Option RangeError
time_miss hours time = if is_time hours time then None else Some miss.Time

abbrev pub offset_miss : Offset → Option RangeError
offset_miss offset = time_miss 24 offset.time

-- of the times of a range
abbrev pub rule_time_miss : {T : Type 0} → TimeRange T → Option T → Option RangeError
rule_time_miss range time = option_and_then (λ t. time_miss range.hours (range.size t)) time

abbrev pub date_miss : Date → Option RangeError
date_miss date = if is_rule_date date then None else Some miss.Date

-- the first that is there
abbrev pub first_some : {A : Type 0} → List (Option A) → Option A
first_some [] = None
first_some (Some x ∷ rest) = Some x
first_some (None ∷ rest) = first_some rest

abbrev pub rule_range : {T : Type 0} → TimeRange T → Rule T → Option RangeError
rule_range range rule = first_some
    (date_miss rule.start.0 ∷ date_miss rule.end.0 ∷ rule_time_miss range rule.start.1 ∷ rule_time_miss range rule.end.1 ∷ [])

-- the first miss: of the standard offset, that of daylight saving time, both dates, the start's time and the end's
unfoldable pub first_miss : {T : Type 0} → TimeRange T → Value T → Option RangeError
first_miss range (short name) = None
first_miss range (expanded std None) = offset_miss std.offset
first_miss range (expanded std (Some dst)) =
    first_some (offset_miss std.offset ∷ option_and_then offset_miss dst.offset ∷ option_and_then (rule_range range) dst.rule ∷ [])

abbrev pub posix_range : TzValue → Option RangeError
posix_range = first_miss day_times
