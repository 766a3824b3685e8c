-- The bytes that are due for a file and its requests.
use Rattle.std.specs.{Prelude.{◌≡◌, ℕ, ℤ, List, [], ◌∷◌, ◌++◌, map, Some, None}, Option.{option_map_or}}
use Rattle.zone_answers.specs.Due.{answer_text, shown_at}
use Rattle.zone_source.specs.{LineLists.{ended}, Lines.{lines_of}}
use Rattle.zone_file_answers.specs.{Faults.{Fault, file, fault_line, first_refused}, Files.{IsFile, IsNoFile}, Requests.{request_of}}

-- the line of a request that is not refused
unfoldable pub answer_line : (ℤ → ℤ) → List ℕ → List ℕ
answer_line total line = answer_text (option_map_or (shown_at total) (request_of line) [])

-- no request is refused, and these are the lines
pub record AreAnswers (source requests : List ℕ) (bytes : List ℕ) : Type 0 where
  pub total : ℤ → ℤ
  pub is : IsFile source total
  pub none : first_refused total 1 (lines_of requests) ≡ None
  pub lines : bytes ≡ ended (map (answer_line total) (lines_of requests))

-- this request is the first that is refused
pub record IsRefused (source requests : List ℕ) (f : Fault) : Type 0 where
  pub total : ℤ → ℤ
  pub is : IsFile source total
  pub first : first_refused total 1 (lines_of requests) ≡ Some f

-- the first fault of the file, else of the requests
abbrev pub IsFault : List ℕ → List ℕ → Fault → Type 0
IsFault source requests file = IsNoFile source
IsFault source requests other = IsRefused source requests other

-- this fault's line
pub record IsFaultLine (source requests : List ℕ) (bytes : List ℕ) : Type 0 where
  pub fault : Fault
  pub found : IsFault source requests fault
  pub line : bytes ≡ fault_line fault ++ 10 ∷ []
