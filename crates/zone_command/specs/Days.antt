-- Requests that the answer to another answers but for the time of day.
use Rattle.std.specs.Prelude.{ℕ, List, Option, IfSome}
use Rattle.zone_answers.specs.{Found.{Found}, SameDays.{IsSameDay, front_of}, declared.same_day.SameDay.{SameDay}}
use Rattle.zone_command.specs.Plain.{year_2100}

-- they begin as a line does and ask for instants before 2100, where names find this; or there are none
abbrev pub IsDayOf : (List ℕ → Found) → List ℕ → Option SameDay → Type 0
IsDayOf names line day = IfSome day (IsSameDay names year_2100 (front_of line))
