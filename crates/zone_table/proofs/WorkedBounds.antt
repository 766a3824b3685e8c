-- The bounds of lines at worked rows: each of their tests fails once.
use Rattle.std.proofs.Common.{◌≡◌, [], ◌∷◌, map, true, false, Option, Some, None, refl, pos, negsuc}
use Rattle.zone_table.specs.{LineBounds.{are_small_seconds, is_bounded_end, is_bounded_info, is_bounded_rule, is_bounded_line}, Seconds.{with_type}, Values.{SavingValue, no_saving, one_off, multiple, InfoValue, RuleValue, space, zone, continuation, rule, link}, declared.{change.ChangeTime.{ChangeTime}, change.ChangeTime.TheVariants.{UntilYear, UntilTime}, day.DaySpec.{DaySpec}, day.DaySpec.TheVariants.{Ordinal, Last}, month.Month.TheVariants.{March}, time.TimeSpec.{TimeSpec}, time.TimeSpec.TheVariants.{Hours}, time.TimeType.TheVariants.{Wall}, weekday.Weekday.TheVariants.{Sunday}, year.Year.TheVariants.{Minimum, Number}}}

seconds : map are_small_seconds (negsuc 1000000 ∷ negsuc 999999 ∷ pos 1000000 ∷ pos 1000001 ∷ []) ≡ false ∷ true ∷ true ∷ false ∷ []
seconds = refl

-- a time of a day, and one past the bound
abbrev short : TimeSpec
short = Hours (pos 2)

abbrev long : TimeSpec
long = Hours (pos 300)

abbrev until : DaySpec → TimeSpec → ChangeTime
until day time = UntilTime (Number (pos 2000)) March day (with_type time Wall)

ends : map is_bounded_end (UntilYear Minimum ∷ until (Last Sunday) short ∷ until (Ordinal (pos 32)) short
    ∷ until (Ordinal (pos 31)) long ∷ [])
    ≡ true ∷ true ∷ false ∷ false ∷ []
ends = refl

abbrev info : TimeSpec → SavingValue → Option ChangeTime → InfoValue
info offset saving time = record { utc_offset = offset; saving = saving; format = []; time = time }

infos : map is_bounded_info (info short no_saving None ∷ info short (multiple []) (Some (UntilYear Minimum))
    ∷ info short (one_off short) None
    ∷ info long no_saving None ∷ info short (one_off long) None ∷ info short no_saving (Some (until (Ordinal (pos 0)) short)) ∷ [])
    ≡ true ∷ true ∷ true ∷ false ∷ false ∷ false ∷ []
infos = refl

abbrev a_rule : DaySpec → TimeSpec → TimeSpec → RuleValue
a_rule day time saving = record {
  name = [];
  from_year = Minimum;
  to_year = None;
  month = March;
  day = day;
  time = with_type time Wall;
  time_to_add = saving;
  letters = None;
}

some_rules : map is_bounded_rule (a_rule (Last Sunday) short short ∷ a_rule (Ordinal (pos 32)) short short ∷ a_rule (Last Sunday) long short
    ∷ a_rule (Last Sunday) short long ∷ [])
    ≡ true ∷ false ∷ false ∷ false ∷ []
some_rules = refl

lines : map is_bounded_line (space ∷ link [] [] ∷ zone [] (info short no_saving None) ∷ zone [] (info long no_saving None)
    ∷ continuation (info long no_saving None) ∷ rule (a_rule (Last Sunday) long short) ∷ [])
    ≡ true ∷ true ∷ true ∷ false ∷ false ∷ false ∷ []
lines = refl
