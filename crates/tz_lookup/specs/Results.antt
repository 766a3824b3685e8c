-- The values that an answer has.
use Rattle.std.specs.Prelude.{Bool, true, false, Option}
use Rattle.std.specs.Prelude as option
use Rattle.tz_lookup.specs.declared.time_zone.OffsetResult.{OffsetResult, TheVariants.{Some, Ambiguous, None}}

abbrev pub has_one : {T : Type 0} → OffsetResult T → Bool
has_one (Some a) = true
has_one _ = false

abbrev pub only_in : {T : Type 0} → OffsetResult T → Option T
only_in (Some a) = option.Some a
only_in _ = option.None

abbrev pub first_in : {T : Type 0} → OffsetResult T → Option T
first_in (Some a) = option.Some a
first_in (Ambiguous a b) = option.Some a
first_in None = option.None

-- the only value where there is one
abbrev pub second_in : {T : Type 0} → OffsetResult T → Option T
second_in (Some a) = option.Some a
second_in (Ambiguous a b) = option.Some b
second_in None = option.None

abbrev pub is_none_in : {T : Type 0} → OffsetResult T → Bool
is_none_in None = true
is_none_in _ = false

abbrev pub is_ambiguous_in : {T : Type 0} → OffsetResult T → Bool
is_ambiguous_in (Ambiguous a b) = true
is_ambiguous_in _ = false
