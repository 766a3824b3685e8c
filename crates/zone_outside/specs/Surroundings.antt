-- What a clock and an environment tell.
use Rattle.std.specs.{Prelude.{ℕ, ◌*◌, ◌^◌, List, Option, option_map, find, nat_eq, String, string_bytes}, declared.alloc.Global.{Global}}
use lib.Pointwise.{pointwise}
use Rattle.zone_outside.specs.Memory.{CallCounts}

-- a clock counts fewer nanoseconds than this, which are those of 2^63 seconds
abbrev pub clock_end : ℕ
clock_end = 2 ^ 63 * 1000000000

-- a clock in memory: the time that it tells, and its calls
pub record ClockState : Type 0 where
  pub time : ℕ
  pub calls : CallCounts

-- the faults of a real clock, or of a real environment
pub record FaultState : Type 0 where
  pub faults : ℕ

-- the value of the first variable of a name
abbrev pub value_of : List (String Global × String Global) → List ℕ → Option (List ℕ)
value_of values name = option_map (λ value. string_bytes value.1) (find (λ value. pointwise nat_eq (string_bytes value.0) name) values)

-- an environment in memory: its names and values, and its calls
pub record EnvironmentState : Type 0 where
  pub values : List (String Global × String Global)
  pub calls : CallCounts
