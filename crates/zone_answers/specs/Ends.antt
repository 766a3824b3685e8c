-- How a run ends.
use Rattle.std.specs.Prelude.{◌≢◌, ℕ, List, Option, None, IsNone, All}
use Rattle.zone_outside.specs.Seen.{Grew, GrewBySome}
use Rattle.zone_answers.specs.{Due.{shown_with, due_bytes}, Faults.{fault_with, IsValidWith}, Found.{Reading, to_2099}, ReadBack.{IsReadBack}, Words.{Task, file_of}}
use Rattle.zone_source.specs.{Runs.{EndsOver, Seen, Writes}, Statuses.{EndsBy}, declared.running.Status.{Status}}

-- what is written of a source and its requests where zones are read in this way, these bytes being due: all of them where the texts
-- are valid, each line then being read back as its instant, and where there is a fault; the status is by the fault
abbrev pub writes_with : Reading → (List ℕ → List ℕ → List ℕ) → Writes
writes_with read due = record {
  lines = λ source requests before now.
      IsValidWith read source requests × All IsReadBack (shown_with read source requests) × Grew before now (due source requests);
  fault = λ source requests before now. (fault_with read source requests ≢ None) × Grew before now (due source requests);
  part = λ source requests before now. GrewBySome before now (due source requests);
  ends = λ source requests end. EndsBy (fault_with read source requests) end;
}

-- how a run ended whose words ask this
abbrev pub Ends : Option Task → Seen → Seen → Status → Type 0
Ends task before now end = EndsOver (writes_with to_2099 due_bytes) (IsNone task) (file_of task) before now end
