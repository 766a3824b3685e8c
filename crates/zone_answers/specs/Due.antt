-- The bytes that are due for a source and its requests.
use Rattle.std.specs.{Prelude.{ℕ, ℤ, List, [], ◌∷◌, ◌++◌, map, codes, Ok, Err}, List.{flat_map}, Option.{option_map_or}}
use Rattle.civil_base.specs.Layout.{zoned_text}
use Rattle.zone_source.specs.{LineLists.{ended}, Lines.{lines_of}}
use Rattle.zone_answers.specs.{Faults.{fault_with}, FaultLines.{fault_line}, Found.{Found, Reading, found_in, to_2099}, Requests.{Request, at, local, name_of, request_of}}
use Rattle.tz_lookup.specs.InForce.{in_force, all_in_force}

-- the instants that answer a request at a zone of these totals, by time, each at the offset in force
unfoldable pub shown_at : (ℤ → ℤ) → Request → List (ℤ × ℤ)
shown_at total (at name instant) = in_force total instant ∷ []
shown_at total (local name time) = all_in_force total time

-- these texts, each after a bar
abbrev pub after_bars : List (List ℕ) → List ℕ
after_bars [] = []
after_bars (text ∷ texts) = codes " | " ++ text ++ after_bars texts

-- these texts with bars between them
abbrev pub with_bars : List (List ℕ) → List ℕ
with_bars [] = codes "none"
with_bars (text ∷ texts) = text ++ after_bars texts

abbrev pub text_shown : ℤ × ℤ → List ℕ
text_shown shown = zoned_text shown.0 shown.1

-- what is shown of a request whose name finds this
abbrev pub shown_found : Request → Found → List (ℤ × ℤ)
shown_found request (Ok total) = shown_at total request
shown_found request (Err cause) = []

-- what is shown by a request line that is not refused, where names find this
unfoldable pub shown_for : (List ℕ → Found) → List ℕ → List (ℤ × ℤ)
shown_for names line = option_map_or (λ request. shown_found request (names (name_of request))) (request_of line) []

abbrev pub answer_text : List (ℤ × ℤ) → List ℕ
answer_text shown = with_bars (map text_shown shown)

-- the line of a request line that is not refused
abbrev pub answer_line : (List ℕ → Found) → List ℕ → List ℕ
answer_line names line = answer_text (shown_for names line)

-- ---- where zones are read in this way

-- all that is shown, in order
unfoldable pub shown_with : Reading → List ℕ → List ℕ → List (ℤ × ℤ)
shown_with read source requests = flat_map (shown_for (found_in read source)) (lines_of requests)

-- one line for each request, in order
unfoldable pub answer_lines_with : Reading → List ℕ → List ℕ → List (List ℕ)
answer_lines_with read source requests = map (answer_line (found_in read source)) (lines_of requests)

-- the lines, or the line of the fault, each followed by a line feed
unfoldable pub due_bytes_with : Reading → List ℕ → List ℕ → List ℕ
due_bytes_with read source requests =
    option_map_or (λ f. fault_line f ++ 10 ∷ []) (fault_with read source requests) (ended (answer_lines_with read source requests))

-- ---- to 2099

abbrev pub shown : List ℕ → List ℕ → List (ℤ × ℤ)
shown = shown_with to_2099

abbrev pub answer_lines : List ℕ → List ℕ → List (List ℕ)
answer_lines = answer_lines_with to_2099

abbrev pub due_bytes : List ℕ → List ℕ → List ℕ
due_bytes = due_bytes_with to_2099
