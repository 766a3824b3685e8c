-- What the program asks of a zone.
use Rattle.std.specs.Prelude.{ℕ, List, [], ◌∷◌, Option, Some, None, option_map, codes}
use Rattle.zone_run.specs.Asked.{Asked}
use Rattle.zone_tail.specs.{Lines.{tail_line}, Found.{found_from, found_text}, Tails.{tail_fault}, declared.outcome.TailFault.{TailFault}, declared.outcome.TailFault.TheVariants.{Shape, OffsetRange, Name, NoMemory}}

-- what stands after `tail: `; want of memory has no line
abbrev pub fault_word : TailFault → List ℕ
fault_word Shape = codes "shape"
fault_word OffsetRange = codes "range"
fault_word Name = codes "name"
fault_word NoMemory = []

-- the string of the zone, and where it begins
abbrev pub asks : Asked
asks = record {
  cause = λ set. option_map fault_word (tail_fault set);
  due = λ set. tail_line (found_from set) (found_text set);
}

-- no words
abbrev pub form : List (List ℕ) → Option Asked
form [] = Some asks
form (word ∷ words) = None
