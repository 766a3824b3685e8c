-- Texts that are due, or why there is none.
use Rattle.std.specs.Prelude.{◌≡◌, ℕ, List, [], ◌∷◌, ◌++◌, Result, Ok, Err}
use Rattle.zone_texts.specs.declared.fault.ReplyFault.{ReplyFault, TheVariants.{OutOfYears, Untold, Skipped, NoMemory}}

-- a text that is due, or the fault
abbrev pub Due : Type 0
Due = Result (List ℕ) ReplyFault

-- a text with what is due behind it, or the fault
abbrev pub behind : List ℕ → Due → Due
behind text (Ok piece) = Ok (text ++ piece)
behind text (Err fault) = Err fault

-- what is due, and another behind it, or the first fault
abbrev pub followed : Due → Due → Due
followed (Ok text) due = behind text due
followed (Err fault) due = Err fault

-- what is due as a line
abbrev pub ended : Due → Due
ended due = followed due (Ok (10 ∷ []))

-- what is due of each item, one behind another, or the first fault
unfoldable pub each_due : {A : Type 0} → (A → Due) → List A → Due
each_due due [] = Ok []
each_due due (x ∷ xs) = followed (due x) (each_due due xs)

-- it is the fault that is due; want of memory may come in place of any text
abbrev pub IsFaultOf : Due → ReplyFault → Type 0
IsFaultOf due OutOfYears = due ≡ Err OutOfYears
IsFaultOf due Untold = due ≡ Err Untold
IsFaultOf due Skipped = due ≡ Err Skipped
IsFaultOf due NoMemory = Unit {0}
