-- What the code's answers tell of archives for ever.
use Rattle.std.specs.Prelude.{◌≡◌, ℕ, List, Option, Some, None, Err, MatchOption, Result, Ok}
use Rattle.zone_tree.specs.{ArchiveEntries.{Content, of_file}, EverTrees.{HasContent, IsEverCause, OfTree}, Trees.{of_name, of_source, refused}, declared.ever.Made.{Made}, declared.refusal.NameFault.{NameFault}, declared.refusal.TreeFault.{TreeFault}}
use Rattle.zone_tree.specs.declared.refusal.Why.{Why}
use Rattle.zone_tree.specs.declared.refusal.NameFault.TheVariants as name
use Rattle.zone_tree.specs.declared.refusal.TreeFault.TheVariants as tree
use Rattle.zone_source.specs.Told.{told_by_source}
use Rattle.zone_source.specs.declared.error.SourceError.TheVariants as source
use Rattle.zone_table.specs.declared.table.Table.{Table}

-- what was made of a zone
abbrev pub content_made : List ℕ → Option Why → Result Content Why
content_made bytes None = Ok (of_file bytes)
content_made bytes (Some cause) = Err cause

abbrev pub made_shown : Made → List ℕ × Result Content Why
made_shown made = (made.name.now, content_made made.file.items made.why)

-- why a zone has no file; want of memory may come in place of any reason
abbrev pub RefusesName : Table → List ℕ → NameFault → Type 0
RefusesName table text (name.Refused why) = HasContent table text (Err why)
RefusesName table text name.NoMemory = Unit {0}

-- this reason is told, or want of memory
abbrev pub TellsWhy : Option Why → NameFault → Type 0
TellsWhy told (name.Refused why) = told ≡ Some why
TellsWhy told name.NoMemory = Unit {0}

-- the fault is the first name that is refused, and why
abbrev pub IsFirstEver : Option (List ℕ) → Table → TreeFault → Type 0
IsFirstEver release table (tree.Source error) = ⊥
IsFirstEver release table (tree.Refused text why) = OfTree release table (λ found. found ≡ Err (refused text why))
IsFirstEver release table tree.NoMemory = Unit {0}

-- the fault is the first cause; a source error that tells no fault is want of memory
abbrev pub IsEverFaultOf : List ℕ → TreeFault → Type 0
IsEverFaultOf text (tree.Source error) = MatchOption (told_by_source error) (error ≡ source.NoMemory) (λ fault. IsEverCause text (of_source fault))
IsEverFaultOf text (tree.Refused name why) = IsEverCause text (of_name (refused name why))
IsEverFaultOf text tree.NoMemory = Unit {0}
