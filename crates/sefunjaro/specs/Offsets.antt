-- The offsets of many seconds.
use Rattle.std.specs.Prelude.{All, ℤ, List, map}
use Rattle.civil_base.specs.{Instants.{nanos_of}, Ranges.{IsInYears}}

-- the seconds east of UTC at each of some seconds
abbrev pub offsets_of : (ℤ → ℤ) → List ℤ → List ℤ
offsets_of total seconds = map (λ second. total (nanos_of second)) seconds

-- each second is one of the years -9999 to 9999 in UTC
abbrev pub AreInYears : List ℤ → Type 0
AreInYears seconds = All (λ second. IsInYears (nanos_of second)) seconds
