-- The fault that the code's fault tells; want of memory tells none.
use Rattle.std.specs.Prelude.{◌≡◌, ℕ, ℤ, List, map, Option, Some, None}
use Rattle.zone_source.specs.Lines.{lines_of}
use Rattle.zone_file_answers.specs.{Due.{answer_line, IsFault}, Faults.{Fault, file, not_text, bad_request, range, first_refused}, Files.{IsFile, IsNoFile}, declared.fault.FileFault.{FileFault}}
use Rattle.zone_file_answers.specs.declared.fault.FileFault.TheVariants as of_code

abbrev pub fault_told : FileFault → Option Fault
fault_told of_code.File = Some file
fault_told (of_code.NotText n) = Some (not_text n)
fault_told (of_code.Request n) = Some (bad_request n)
fault_told (of_code.Range n) = Some (range n)
fault_told of_code.NoMemory = None

-- it tells the request's fault that was found, or memory ran out
abbrev pub TellsOf : Option Fault → FileFault → Type 0
TellsOf found of_code.NoMemory = Unit {0}
TellsOf found of_code.File = ⊥
TellsOf found (of_code.NotText n) = found ≡ Some (not_text n)
TellsOf found (of_code.Request n) = found ≡ Some (bad_request n)
TellsOf found (of_code.Range n) = found ≡ Some (range n)

-- the lines answer the requests over the file
pub record AnswersFile (source requests : List ℕ) (lines : List (List ℕ)) : Type 0 where
  pub total : ℤ → ℤ
  pub is : IsFile source total
  pub none : first_refused total 1 (lines_of requests) ≡ None
  pub are : lines ≡ map (answer_line total) (lines_of requests)

-- what is told is the first fault; none is told, for want of memory, only of a file that is a zone
abbrev pub IsToldFault : List ℕ → List ℕ → Option Fault → Type 0
IsToldFault source requests None = ¬ (IsNoFile source)
IsToldFault source requests (Some fault) = IsFault source requests fault

abbrev pub FaultOfFile : List ℕ → List ℕ → FileFault → Type 0
FaultOfFile source requests fault = IsToldFault source requests (fault_told fault)
