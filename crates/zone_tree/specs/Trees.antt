-- The archive of a source.
use Rattle.std.specs.Prelude.{ℕ, List, [], ◌∷◌, ◌++◌, Option, Some, None, Result, Ok, Err}
use Rattle.zone_tree.specs.{Archives.{archive}, ArchiveEntries.{EntryValue}, Entries.{version_name, entry_of, release_entry}, Names.{Finds, finds_in, archive_names}, declared.refusal.Why.{Why}}
use Rattle.zone_source.specs.{Releases.{release_of}, Faults.{SourceFault, source_fault}}

-- a name that has no entry, and why
pub record Refused : Type 0 where
  pub name : List ℕ
  pub why : Why

abbrev pub refused : List ℕ → Why → Refused
refused name why = record { name = name; why = why }

-- an entry and those after it; the first that is refused comes first
abbrev pub onto : List ℕ → Result EntryValue Why → Result (List EntryValue) Refused → Result (List EntryValue) Refused
onto name (Ok e) (Ok entries) = Ok (e ∷ entries)
onto name (Ok e) (Err first) = Err first
onto name (Err why) rest = Err (refused name why)

-- the entries of names, or the first that has none
unfoldable pub entries_of : (List ℕ → Result EntryValue Why) → List (List ℕ) → Result (List EntryValue) Refused
entries_of entry [] = Ok []
entries_of entry (name ∷ names) = onto name (entry name) (entries_of entry names)

-- what comes first: the file that says the release, if the source names one
abbrev pub first_entries : Option (List ℕ) → Result (List EntryValue) Refused
first_entries None = Ok []
first_entries (Some release) = onto version_name (release_entry release) (Ok [])

-- these entries before those
abbrev pub before : List EntryValue → Result (List EntryValue) Refused → Result (List EntryValue) Refused
before es (Ok fs) = Ok (es ++ fs)
before es (Err first) = Err first

abbrev pub joined : Result (List EntryValue) Refused → Result (List EntryValue) Refused → Result (List EntryValue) Refused
joined (Ok es) others = before es others
joined (Err first) others = Err first

abbrev pub archive_of : Result (List EntryValue) Refused → Result (List ℕ) Refused
archive_of (Ok entries) = Ok (archive entries)
archive_of (Err first) = Err first

-- the archive of the release's file, then of the zones, and then of the links
unfoldable pub tree_by : Option (List ℕ) → Finds → Result (List ℕ) Refused
tree_by release finds = archive_of (joined (first_entries release) (entries_of (entry_of finds) (archive_names finds)))

-- the source has a fault, or a name has no entry
pub data Cause : Type 0 where
  of_source : SourceFault → Cause
  of_name : Refused → Cause

abbrev pub or_cause : Result (List ℕ) Refused → Result (List ℕ) Cause
or_cause (Ok bytes) = Ok bytes
or_cause (Err first) = Err (of_name first)

abbrev pub after_source : Option SourceFault → Result (List ℕ) Refused → Result (List ℕ) Cause
after_source (Some fault) tree = Err (of_source fault)
after_source None tree = or_cause tree

-- the archive of a source, or the first cause that there is none
unfoldable pub tree_of : List ℕ → Result (List ℕ) Cause
tree_of source = after_source (source_fault source) (tree_by (release_of source) (finds_in source))
