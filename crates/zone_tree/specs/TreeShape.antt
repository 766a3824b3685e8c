-- What holds of each archive.
use Rattle.std.specs.{Prelude.{◌≡◌, ◌&&◌, ℕ, Bool, true, false, List, [], ◌∷◌, ◌++◌, Option, Some, None, bytes_eq, is_some}, List.{list_any}}
use Rattle.zone_tree.specs.{Archives.{IsArchive}, ArchiveEntries.{Content, of_file, of_link, EntryValue, entry}, Entries.{version_name}, Names.{given_names}}
use Rattle.zone_source.specs.{Releases.{release_of}, Zones.{zone_in}}

-- a link is to one of these names
abbrev pub is_to : List (List ℕ) → Content → Bool
is_to files (of_file bytes) = true
is_to files (of_link target) = list_any (bytes_eq target) files

-- the names of files, with that of one more entry if it is one
abbrev pub files_with : List ℕ → List (List ℕ) → Content → List (List ℕ)
files_with name files (of_file bytes) = name ∷ files
files_with name files (of_link target) = files

-- each link is to a file before it, or to one of these
unfoldable pub are_behind : List (List ℕ) → List EntryValue → Bool
are_behind files [] = true
are_behind files (e ∷ entries) = is_to files e.content && are_behind (files_with e.name files e.content) entries

-- a file that says the release in a line of its own, if there is one
abbrev pub version_entries : Option (List ℕ) → List EntryValue
version_entries None = []
version_entries (Some release) = entry version_name (of_file (release ++ 10 ∷ [])) ∷ []

-- the bytes are the archive of the release's file, if the source names its release, and then of entries, none of which has the name of
-- that file: a name has one exactly where a line gives it to a zone or by a link, each of them finds a zone, and each link is to a file
-- before it
pub record IsTree (source bytes : List ℕ) : Type 0 where
  pub entries : List EntryValue
  pub is_archive : IsArchive bytes (version_entries (release_of source) ++ entries)
  pub apart : list_any (λ e. bytes_eq version_name e.name) entries ≡ false
  pub each : (name : List ℕ) → list_any (λ e. bytes_eq name e.name) entries ≡ list_any (bytes_eq name) (given_names source)
  pub found : (name : List ℕ) → list_any (λ e. bytes_eq name e.name) entries ≡ is_some (zone_in source name)
  pub behind : are_behind [] entries ≡ true
