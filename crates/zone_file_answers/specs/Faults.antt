-- Why a file or a request is refused, with the number of its line.
use Rattle.std.specs.{Prelude.{ℕ, suc, ℤ, List, [], ◌∷◌, Option, Some, None, codes, if◌then◌else◌}, Option.{option_or, option_map_or}, Str.{is_utf8}}
use Rattle.zone_answers.specs.{Faults.{has_dates}, Requests.{Request}}
use Rattle.zone_answers.specs.FaultLines as answers
use Rattle.zone_file_answers.specs.Requests.{request_of}

-- a file that is no zone; a request that is no text, one in no form, and one whose date leaves the years -9999 to 9999
pub data Fault : Type 0 where
  file : Fault
  not_text : ℕ → Fault
  bad_request : ℕ → Fault
  range : ℕ → Fault

abbrev pub dates_refusal : (ℤ → ℤ) → ℕ → Request → Option Fault
dates_refusal total n request = if has_dates total request then None else Some (range n)

-- why the nth request is refused at a zone of these totals
unfoldable pub request_refusal : (ℤ → ℤ) → ℕ → List ℕ → Option Fault
request_refusal total n line =
    if is_utf8 line then option_map_or (dates_refusal total n) (request_of line) (Some (bad_request n)) else Some (not_text n)

-- why the first of these requests, counted from n on, is refused, if one is
abbrev pub first_refused : (ℤ → ℤ) → ℕ → List (List ℕ) → Option Fault
first_refused total n [] = None
first_refused total n (line ∷ lines) = option_or (request_refusal total n line) (first_refused total (suc n) lines)

-- ---- the lines that tell them

abbrev pub file_refused : List ℕ
file_refused = codes "file: refused"

abbrev pub request_line : ℕ → List ℕ → List ℕ
request_line n cause = answers.request_line n [] cause

abbrev pub fault_line : Fault → List ℕ
fault_line file = file_refused
fault_line (not_text n) = request_line n (codes "not text")
fault_line (bad_request n) = request_line n (codes "request")
fault_line (range n) = request_line n (codes "range")
