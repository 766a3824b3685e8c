-- What was written of the due bytes.
use Rattle.std.specs.Prelude.{◌≡◌, ℕ, List, ◌++◌, Option, IsSomeAnd, [], ◌∷◌}
use Rattle.zone_source.specs.{LineLists.{ended}, declared.running.Answered.{Answered}, declared.running.Answered.TheVariants.{Done, Fault, Failed, NoMemory}}
use Rattle.zone_answers.specs.{Due.{due_bytes_with}, FaultLines.{fault_line}, Found.{Reading}, Summary.{summary, due_summary_with}, declared.answering.Form.{Form}}
use Rattle.zone_answers.specs.Faults as faults
use Rattle.zone_answers.specs.declared.answering.Form.TheVariants as form
use Rattle.zone_outside.specs.{Seen.{OutputSeen, Grew, GrewBySome}, Outside.{Rose}}

-- the bytes of the answers' lines in this form
abbrev pub lines_in : Form → List (List ℕ) → List ℕ
lines_in form.Lines lines = ended lines
lines_in form.Summary lines = summary lines ++ 10 ∷ []

-- the bytes that are due in this form where zones are read in this way
abbrev pub due_in : Reading → Form → List ℕ → List ℕ → List ℕ
due_in read form.Lines = due_bytes_with read
due_in read form.Summary = due_summary_with read

-- what was written of an error, which tells a fault or want of memory
abbrev pub RespondsError : Option faults.Fault → OutputSeen → OutputSeen → Answered → Type 0
RespondsError told before now Done = ⊥
RespondsError told before now Fault = IsSomeAnd told (λ f. Grew before now (fault_line f ++ 10 ∷ []))
RespondsError told before now Failed = Rose before.faults now.faults × IsSomeAnd told (λ f. GrewBySome before now (fault_line f ++ 10 ∷ []))
RespondsError told before now NoMemory = now ≡ before
