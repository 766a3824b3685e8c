-- What was written is of the due bytes.
use Rattle.std.{proofs.Common.{◌≡◌, ℕ, List, [], ◌∷◌, ◌++◌, Option, Some, None, IfSome, MatchOption, sym, ap, ◌∙◌}, specs.Option.{option_map_or}}
use Rattle.zone_outside.specs.{Outside.{GrewByPrefix}, Seen.{OutputSeen, Grew, GrewBySome}}
use Rattle.zone_source.specs.{LineLists.{ended}, Responses.{Responds}, declared.running.Answered.{Answered}, declared.running.Answered.TheVariants.{Done, Fault, Failed, NoMemory}}
use Rattle.zone_answers.specs.{Due.{answer_lines_with, due_bytes_with}, Faults.{IsValidWith, fault_with}, FaultLines.{fault_line}, Found.{Reading}, Told.{reading_told, TellsReading}, Ends.{writes_with}, Responses.{RespondsError, due_in, lines_in}}
use Rattle.zone_answers.specs.{Summary.{summary, due_summary_with}, declared.error.ReadingError.{ReadingError}, declared.error.ReadingError.TheVariants.{Answer}, declared.answering.Form.{Form}}
use Rattle.zone_answers.specs.Faults as faults
use Rattle.zone_answers.specs.declared.error.AnswerError.TheVariants as errors
use Rattle.zone_answers.specs.declared.answering.Form.TheVariants as forms

-- without a fault the lines are due
pub due_valid : (read : Reading) (form : Form) (source requests : List ℕ) (lines : List (List ℕ)) → IsValidWith read source requests
    → lines ≡ answer_lines_with read source requests → lines_in form lines ≡ due_in read form source requests
unfolding due_bytes_with due_summary_with
due_valid read forms.Lines source requests lines valid is =
    ap ended is ∙ ap (λ o. option_map_or (λ f. fault_line f ++ 10 ∷ []) o (ended (answer_lines_with read source requests))) (sym valid)
due_valid read forms.Summary source requests lines valid is =
    ap (λ l. summary l ++ 10 ∷ []) is
    ∙ ap (λ o. option_map_or fault_line o (summary (answer_lines_with read source requests)) ++ 10 ∷ []) (sym valid)

-- with one, its line is
due_fault : (read : Reading) (form : Form) (source requests : List ℕ) (f : faults.Fault) → fault_with read source requests ≡ Some f
    → fault_line f ++ 10 ∷ [] ≡ due_in read form source requests
unfolding due_bytes_with due_summary_with
due_fault read forms.Lines source requests f is =
    ap (λ o. option_map_or (λ f. fault_line f ++ 10 ∷ []) o (ended (answer_lines_with read source requests))) (sym is)
due_fault read forms.Summary source requests f is =
    ap (λ o. option_map_or fault_line o (summary (answer_lines_with read source requests)) ++ 10 ∷ []) (sym is)

grew_told : (taken now : Option (List ℕ)) (bytes due : List ℕ) → bytes ≡ due → IfSome taken (λ had. now ≡ Some (had ++ bytes))
    → IfSome taken (λ had. now ≡ Some (had ++ due))
grew_told None now bytes due is h = tt
grew_told (Some had) now bytes due is h = h ∙ ap (λ b. Some (had ++ b)) is

grew_some_told : (taken now : Option (List ℕ)) (bytes due : List ℕ) → bytes ≡ due → IfSome taken (λ had. GrewByPrefix had now bytes)
    → IfSome taken (λ had. GrewByPrefix had now due)
grew_some_told None now bytes due is h = tt
grew_some_told (Some had) now bytes due is h = rw (← is) h

pub wrote : (bytes due : List ℕ) (before now : OutputSeen) → bytes ≡ due → Grew before now bytes → Grew before now due
wrote bytes due before now is h = grew_told before.taken now.taken bytes due is h

pub wrote_some : (bytes due : List ℕ) (before now : OutputSeen) → bytes ≡ due → GrewBySome before now bytes → GrewBySome before now due
wrote_some bytes due before now is h = grew_some_told before.taken now.taken bytes due is h

-- an error's answer is an answer
pub error_response : (read : Reading) (form : Form) (source requests : List ℕ) (error : ReadingError) (before now : OutputSeen) (result : Answered) →
    TellsReading (fault_with read source requests) error → RespondsError (reading_told error) before now result
    → Responds (writes_with read (due_in read form)) source requests before now result
error_response read form source requests error before now result tells h = by_told (reading_told error) result tells h
  where
    by_told : (told : Option faults.Fault) (result : Answered)
        → MatchOption told (error ≡ Answer errors.NoMemory) (λ f. fault_with read source requests ≡ Some f) →
        RespondsError told before now result → Responds (writes_with read (due_in read form)) source requests before now result
    by_told told Done is h = absurd h
    by_told None Fault is h = absurd h
    by_told (Some f) Fault is h =
        (λ none. let no = sym is ∙ none in absurd (cc), wrote _ _ before now (due_fault read form source requests f is) h)
    by_told None Failed is h = absurd h.1
    by_told (Some f) Failed is h = (h.0, wrote_some _ _ before now (due_fault read form source requests f is) h.1)
    by_told told NoMemory is h = h
