-- What the words START, TIME and DAYS say.
use Rattle.std.specs.Prelude.{ℕ, List, ◌++◌, Option, Some, None, ℤ, pos, codes, int_le, unsigned_abs, if◌then◌else◌}
use Rattle.civil_base.specs.LocalTimes.{local_time_in}
use Rattle.zone_run.specs.Numbers.{number_in}

-- a date and a time of whole seconds as a local text
abbrev pub start_text : List ℕ → List ℕ → List ℕ
start_text start time = start ++ codes " " ++ time ++ codes ".000000000"

-- the local time whose text they make
abbrev pub start_in : List ℕ → List ℕ → Option ℤ
start_in start time = local_time_in (start_text start time)

abbrev pub days_of : Option ℤ → Option ℕ
days_of (Some number) = if int_le (pos 1) number then Some (unsigned_abs number) else None
days_of None = None

-- the number from 1 to 36,600 whose decimal text the word is
abbrev pub days_in : List ℕ → Option ℕ
days_in word = days_of (number_in 36600 word)
