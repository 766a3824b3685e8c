-- Strings in whose names there is nothing that POSIX has no place for, and those in which nothing is.
use Rattle.std.specs.Prelude.{ℕ, Bool, false, true, ◌&&◌, nat_le, List, Option, Some, None}
use Rattle.tz_posix.specs.{Spells.{Spells}, Values.{DstPart, TzValue, short, expanded}, declared.time.Time.{Time}, declared.values.Rule.{Rule}}
use Rattle.zone_tail.specs.Tails.{is_posix_name}

abbrev pub is_saving_named : Option (DstPart Time) → Bool
is_saving_named None = true
is_saving_named (Some saving) = is_posix_name saving.name

-- the name of standard time is such a name, and that of daylight saving time where there is one
abbrev pub has_posix_names : TzValue → Bool
has_posix_names (short name) = false
has_posix_names (expanded standard saving) = is_posix_name standard.name && is_saving_named saving

-- 24 hours at most, or none written
abbrev pub is_posix_time : Option Time → Bool
is_posix_time None = true
is_posix_time (Some time) = nat_le time.hh 24

abbrev pub is_posix_rule : Option (Rule Time) → Bool
is_posix_rule None = true
is_posix_rule (Some rule) = is_posix_time rule.start.1 && is_posix_time rule.end.1

abbrev pub is_saving_timed : Option (DstPart Time) → Bool
is_saving_timed None = true
is_saving_timed (Some saving) = is_posix_rule saving.rule

-- the times of the rule, where there is one, are such times
abbrev pub has_posix_times : TzValue → Bool
has_posix_times (short name) = true
has_posix_times (expanded standard saving) = is_saving_timed saving

abbrev pub is_posix_string : TzValue → Bool
is_posix_string value = has_posix_names value && has_posix_times value

-- a text is one of the grammar of POSIX
pub record IsSpelled (text : List ℕ) : Type 0 where
  pub value : TzValue
  pub spells : Spells text value
