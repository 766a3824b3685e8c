-- After the lines, after the line of a fault and for want of memory a run ends by the fault of its texts.
use Rattle.std.specs.Prelude.{ℕ, List}
use Rattle.zone_answers.specs.{Ends.{writes_with}, Faults.{fault_with}, Found.{Reading}}
use Rattle.zone_source.specs.{EndLaws.{ends_valid, ends_refused, ends_without}, Runs.{EndsWell}}

pub ends_well : (read : Reading) (due : List ℕ → List ℕ → List ℕ) → EndsWell (writes_with read due)
ends_well read due = record {
  lines = λ source requests _ _ wrote. ends_valid (fault_with read source requests) wrote.0;
  fault = λ source requests _ _ wrote. ends_refused (fault_with read source requests) wrote.0;
  memory = λ source requests. ends_without (fault_with read source requests);
}
