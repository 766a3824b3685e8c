-- What is seen of the objects in memory: what they hold, how far they step, and their calls.
use Rattle.std.specs.{Prelude.{ℕ, ◌<◌, ◌≤◌, Bool, List, [], length, Option, Some, None, option_map, ◌==◌, String, Vec, string_bytes, nat_eq, map, slice_get, find}, List.{list_any}, Option.{option_map_or}, declared.alloc.Global.{Global}}
use lib.Pointwise.{pointwise}
use Rattle.zone_outside.specs.Outside.{raised}

-- how many calls were made, the numbers of those that fail, counted from 1, and how many faults there were
pub record CallCounts : Type 0 where
  pub made : ℕ
  pub failing : List ℕ
  pub faults : ℕ

abbrev pub next_call : CallCounts → ℕ
next_call calls = raised calls.made 1

-- the next call's number is listed
abbrev pub fails_next : CallCounts → Bool
fails_next calls = list_any (λ number. number == next_call calls) calls.failing

abbrev pub counted : CallCounts → CallCounts
counted calls = record calls { made = next_call calls }

abbrev pub faulted : CallCounts → CallCounts
faulted calls = record calls { faults = raised calls.faults 1 }

-- the calls of a new object
abbrev pub fresh_calls : List ℕ → CallCounts
fresh_calls failing = record { made = 0; failing = failing; faults = 0 }

-- a source: the bytes still to come, the most that a read gives, the bytes given
pub record SourceState : Type 0 where
  pub left : List ℕ
  pub step : ℕ
  pub given : ℕ
  pub calls : CallCounts

-- a sink: the bytes taken, how many it takes in all, the most that a write takes
pub record SinkState : Type 0 where
  pub taken : List ℕ
  pub room : ℕ
  pub step : ℕ
  pub calls : CallCounts

-- a shelf: names and texts, and a source of the text that was fetched last
pub record ShelfState : Type 0 where
  pub files : List (List ℕ × List ℕ)
  pub left : List ℕ
  pub step : ℕ
  pub given : ℕ
  pub calls : CallCounts

-- the text of the first file with that name
abbrev pub text_of : List (List ℕ × List ℕ) → List ℕ → Option (List ℕ)
text_of files name = option_map (λ file. file.1) (find (λ file. pointwise nat_eq file.0 name) files)

-- what has been given is within the bytes, and each read moves
pub record Within (at length step : ℕ) : Type 0 where
  pub bound : at ≤ length
  pub moves : 0 < step

-- the names and texts of the files
abbrev pub files_of : List (String Global × Vec ℕ Global) → List (List ℕ × List ℕ)
files_of files = map (λ file. (string_bytes file.0, file.1.items)) files

-- the text of the file at a place
abbrev pub text_at : List (String Global × Vec ℕ Global) → ℕ → List ℕ
text_at files place = option_map_or (λ file. file.1.items) (slice_get files place) []

-- the text of the chosen file, which is empty where none is chosen
abbrev pub text_chosen : List (String Global × Vec ℕ Global) → Option ℕ → List ℕ
text_chosen files None = []
text_chosen files (Some place) = text_at files place

-- what has been given is within the chosen text, and each read moves
pub record IsOpenWithin (files : List (String Global × Vec ℕ Global)) (chosen : Option ℕ) (at step : ℕ) : Type 0 where
  pub bound : at ≤ length (text_chosen files chosen)
  pub moves : 0 < step

-- what was taken is within the room, the room is within what was reserved, and each write moves
pub record HasRoom (taken room capacity step : ℕ) : Type 0 where
  pub within : taken ≤ room
  pub reserved : room ≤ capacity
  pub moves : 0 < step

-- bytes that are always given: all of them, those still to come, and how many were given
pub record SureState : Type 0 where
  pub bytes : List ℕ
  pub left : List ℕ
  pub given : ℕ
