-- What the words of a run ask.
use Rattle.std.specs.{Prelude.{ℕ, List, [], ◌∷◌, map, String, string_bytes, Option, None, option_map}, declared.alloc.Global.{Global}}
use Rattle.zone_run.specs.Asked.{Asked}

-- the name of a file, the name of a zone, and what is asked of the zone
pub record Task : Type 0 where
  pub file : List ℕ
  pub zone : List ℕ
  pub asked : Asked

abbrev pub task_at : List ℕ → List ℕ → Asked → Task
task_at file zone asked = record { file = file; zone = zone; asked = asked }

-- FILE, NAME, and the program's own words
abbrev pub task_in : (List (List ℕ) → Option Asked) → List (List ℕ) → Option Task
task_in form (file ∷ zone ∷ words) = option_map (task_at file zone) (form words)
task_in form (file ∷ []) = None
task_in form [] = None

abbrev pub task_of : (List (List ℕ) → Option Asked) → List (String Global) → Option Task
task_of form words = task_in form (map string_bytes words)
