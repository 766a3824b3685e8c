-- What is said of the answers in place of the answers themselves.
use Rattle.std.specs.{Prelude.{ℕ, List, [], ◌∷◌, ◌++◌, length, sum, codes, decimal}, List.{concat}, Option.{option_map_or}}
use Rattle.zone_answers.specs.{Due.{answer_lines_with}, Faults.{fault_with}, Found.{Reading, to_2099}, FaultLines.{fault_line}}

-- `lines 2 bytes 78 sum 3783`: how many lines, how many bytes in them, and the sum of these
unfoldable pub summary : List (List ℕ) → List ℕ
summary lines =
    codes "lines " ++ decimal (length lines) ++ codes " bytes " ++ decimal (length (concat lines))
    ++ codes " sum " ++ decimal (sum (concat lines))

-- the summary of the answers, or the line of the fault, followed by a line feed, where zones are read in this way
unfoldable pub due_summary_with : Reading → List ℕ → List ℕ → List ℕ
due_summary_with read source requests =
    option_map_or fault_line (fault_with read source requests) (summary (answer_lines_with read source requests)) ++ 10 ∷ []

-- to 2099
abbrev pub due_summary : List ℕ → List ℕ → List ℕ
due_summary = due_summary_with to_2099
