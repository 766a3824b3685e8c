-- What the words of a run ask.
use Rattle.std.specs.{Prelude.{ℕ, List, [], ◌∷◌, map, String, string_bytes, Option, Some, None, option_map, bytes_eq, codes, if◌then◌else◌}, declared.alloc.Global.{Global}}
use Rattle.zone_answers.specs.Counts.{count_in}

-- to answer the requests of the input over the file of that name; to answer over the texts made from a number
pub data Task : Type 0 where
  answer_over : List ℕ → Task
  generate : ℕ → Task

-- what the first of two words asks of the second
abbrev pub task_of_two : List ℕ → List ℕ → Option Task
task_of_two option count = if bytes_eq option (codes "--generate") then option_map generate (count_in count) else None

-- one word is the name of a file, whatever it holds; two are `--generate` and a number
abbrev pub task_in : List (List ℕ) → Option Task
task_in (name ∷ []) = Some (answer_over name)
task_in (option ∷ count ∷ []) = task_of_two option count
task_in words = None

abbrev pub task_of : List (String Global) → Option Task
task_of words = task_in (map string_bytes words)

-- the name of the file that is read
abbrev pub file_of : Option Task → Option (List ℕ)
file_of (Some (answer_over name)) = Some name
file_of (Some (generate count)) = None
file_of None = None

-- the number that texts are made from
abbrev pub count_of : Option Task → Option ℕ
count_of (Some (generate count)) = Some count
count_of (Some (answer_over name)) = None
count_of None = None
