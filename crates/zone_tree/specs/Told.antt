-- What the code's answers tell.
use Rattle.std.specs.{Prelude.{◌≡◌, ℕ, List, ◌++◌, Result, Ok, Err, MatchOption}, List.{flat_map}}
use Rattle.zone_tree.specs.{Archives.{entry_bytes}, ArchiveEntries.{EntryValue}, Trees.{Refused, refused, Cause, of_source, of_name}, declared.refusal.NameFault.{NameFault}, declared.refusal.TreeFault.{TreeFault}, declared.refusal.Why.{Why}}
use Rattle.zone_tree.specs.declared.refusal.NameFault.TheVariants as name
use Rattle.zone_tree.specs.declared.refusal.TreeFault.TheVariants as tree
use Rattle.zone_source.specs.Told.{told_by_source}
use Rattle.zone_source.specs.declared.error.SourceError.TheVariants as source

-- the fault is why; want of memory may come in place of any
abbrev pub IsWhy : {A : Type 0} → Result A Why → NameFault → Type 0
IsWhy found (name.Refused why) = found ≡ Err why
IsWhy found name.NoMemory = Unit {0}

-- the bytes of the entry were put at the end
pub record IsPut (old new : List ℕ) (found : Result EntryValue Why) : Type 0 where
  pub entry : EntryValue
  pub is_found : found ≡ Ok entry
  pub bytes : new ≡ old ++ entry_bytes entry

-- the bytes of the entries were put at the end
pub record ArePut (old new : List ℕ) (found : Result (List EntryValue) Refused) : Type 0 where
  pub entries : List EntryValue
  pub are_found : found ≡ Ok entries
  pub bytes : new ≡ old ++ flat_map entry_bytes entries

-- the fault is the first name that is refused, and why
abbrev pub IsFirst : {A : Type 0} → Result A Refused → TreeFault → Type 0
IsFirst found (tree.Source error) = ⊥
IsFirst found (tree.Refused text why) = found ≡ Err (refused text why)
IsFirst found tree.NoMemory = Unit {0}

-- the fault is the first cause; a source error that tells no fault is want of memory
abbrev pub IsFaultOf : Result (List ℕ) Cause → TreeFault → Type 0
IsFaultOf found (tree.Source error) = MatchOption (told_by_source error) (error ≡ source.NoMemory) (λ fault. found ≡ Err (of_source fault))
IsFaultOf found (tree.Refused text why) = found ≡ Err (of_name (refused text why))
IsFaultOf found tree.NoMemory = Unit {0}
