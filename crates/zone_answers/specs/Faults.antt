-- Why a source or a request is refused, with the number of its line.
use Rattle.std.specs.{Prelude.{◌≡◌, ℕ, suc, Bool, true, ◌&&◌, ℤ, List, [], ◌∷◌, Option, Some, None, option_map, Ok, Err, if◌then◌else◌}, Option.{option_or, option_map_or}, Str.{is_utf8}}
use Rattle.civil_base.specs.{Instants.{local_at}, Ranges.{is_in_years}}
use Rattle.zone_source.specs.{Faults.{SourceFault, source_fault}, Lines.{lines_of}}
use Rattle.zone_answers.specs.{Found.{Cause, Found, Reading, found_in, to_2099}, Requests.{Request, at, local, name_of, request_of}}

-- a fault of the source; a request that is no text, one in no form, one whose zone can't be asked, and one whose date leaves the
-- years -9999 to 9999
pub data Fault : Type 0 where
  of_source : SourceFault → Fault
  request_not_text : ℕ → Fault
  bad_request : ℕ → Fault
  bad_zone : ℕ → Cause → Fault
  range : ℕ → Fault

-- the UTC date of an instant and its local date at a total lie in the years -9999 to 9999
abbrev pub are_in_years : ℤ → ℤ → Bool
are_in_years instant total = is_in_years instant && is_in_years (local_at instant total)

-- an instant that is asked at a zone of these totals has both dates
unfoldable pub has_dates : (ℤ → ℤ) → Request → Bool
has_dates total (local name time) = true
has_dates total (at name instant) = are_in_years instant (total instant)

-- why the zone can't be asked that the nth request finds
abbrev pub zone_refusal : ℕ → Found → Option Fault
zone_refusal n (Err cause) = Some (bad_zone n cause)
zone_refusal n (Ok total) = None

-- why the nth request is refused at a zone of these totals
abbrev pub dates_refusal : ℕ → Request → (ℤ → ℤ) → Option Fault
dates_refusal n request total = if has_dates total request then None else Some (range n)

-- why the nth request is refused whose name finds this
abbrev pub found_refusal : ℕ → Request → Found → Option Fault
found_refusal n request (Err cause) = Some (bad_zone n cause)
found_refusal n request (Ok total) = dates_refusal n request total

-- why the nth request is refused where names find this
unfoldable pub request_refusal : (List ℕ → Found) → ℕ → List ℕ → Option Fault
request_refusal names n line =
    if is_utf8 line
    then option_map_or (λ request. found_refusal n request (names (name_of request))) (request_of line) (Some (bad_request n))
    else Some (request_not_text n)

-- why the first of these requests, counted from n on, is refused, if one is
abbrev pub first_refused : (List ℕ → Found) → ℕ → List (List ℕ) → Option Fault
first_refused names n [] = None
first_refused names n (line ∷ lines) = option_or (request_refusal names n line) (first_refused names (suc n) lines)

-- the first fault of the source
abbrev pub source_refusal : List ℕ → Option Fault
source_refusal source = option_map of_source (source_fault source)

-- the first fault of the source, else of the requests, where zones are read in this way
unfoldable pub fault_with : Reading → List ℕ → List ℕ → Option Fault
fault_with read source requests = option_or (source_refusal source) (first_refused (found_in read source) 1 (lines_of requests))

abbrev pub IsValidWith : Reading → List ℕ → List ℕ → Type 0
IsValidWith read source requests = fault_with read source requests ≡ None

-- to 2099
abbrev pub fault : List ℕ → List ℕ → Option Fault
fault = fault_with to_2099

abbrev pub IsValid : List ℕ → List ℕ → Type 0
IsValid = IsValidWith to_2099
