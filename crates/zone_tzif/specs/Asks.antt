-- What the program asks of a zone.
use Rattle.std.specs.Prelude.{ℕ, List, [], ◌∷◌, Option, Some, None, option_map, codes}
use Rattle.zone_run.specs.Asked.{Asked}
use Rattle.zone_tzif_core.specs.declared.values.WriteFault.{WriteFault, TheVariants.{Times, Types, Names, Offset, Footer, NoMemory}}
use Rattle.zone_tzif.specs.Files.{file_fault, file_of_set}

-- what stands after `tzif: `; the file of a set is refused neither for an offset nor for the footer, and want of memory has no line
abbrev pub fault_word : WriteFault → List ℕ
fault_word Times = codes "times"
fault_word Types = codes "types"
fault_word Names = codes "names"
fault_word Offset = []
fault_word Footer = []
fault_word NoMemory = []

-- the file of the zone, and nothing more
abbrev pub asks : Asked
asks = record {
  cause = λ set. option_map fault_word (file_fault set);
  due = λ set. file_of_set set;
}

-- no words
abbrev pub form : List (List ℕ) → Option Asked
form [] = Some asks
form (word ∷ words) = None
