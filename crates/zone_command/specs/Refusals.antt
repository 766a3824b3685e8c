-- Why a source, a zone or a reply is refused, in words.
use Rattle.std.specs.Prelude.{ℕ, List, [], ◌∷◌, ◌++◌, codes}
use Rattle.zone_texts.specs.declared.fault.ReplyFault.{ReplyFault, TheVariants.{OutOfYears, Untold, Skipped, NoMemory as NoRoom}}
use Rattle.zone_words.specs.ToldWords.{told_word}
use Rattle.zone_command.specs.declared.source.Refusal.{Refusal, TheVariants.{Why, NoMemory}}

-- the words are such; or memory ran out
abbrev pub IsTold : (List ℕ → Type 0) → Refusal → Type 0
IsTold why (Why words) = why words.items
IsTold why NoMemory = Unit {0}

-- a word in quotes, as words are told, and what is told of it
abbrev pub name_words : List ℕ → List ℕ → List ℕ
name_words word why = (((34 ∷ []) ++ told_word word) ++ 34 ∷ codes ": ") ++ why

-- the line that tells these words
abbrev pub told_line : List ℕ → List ℕ
told_line words = (codes "zone: " ++ words) ++ 10 ∷ []

-- what is told of a fault of a reply
abbrev pub fault_words : ReplyFault → List ℕ
fault_words OutOfYears = codes "a date lies outside the years -9999 to 9999"
fault_words Untold = codes "the zone's rules end before that year"
fault_words Skipped = codes "clocks skip this local time"
fault_words NoRoom = codes "out of memory"
