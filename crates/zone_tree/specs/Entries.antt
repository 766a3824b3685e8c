-- The entry of a name.
use Rattle.std.specs.{Prelude.{ℕ, List, [], ◌∷◌, ◌++◌, ◌||◌, nat_eq, Bool, Option, Some, None, Result, Ok, Err, codes, if◌then◌else◌}, List.{list_any, starts_with}}
use Rattle.zone_tree.specs.{ArchiveEntries.{Content, of_file, of_link, EntryValue, entry}, ArchiveNames.{entry_fault}, declared.archive.entry.EntryFault.{EntryFault}, Names.{Finds}, declared.refusal.Why.{Why}}
use Rattle.zone_tree.specs.declared.refusal.Why.TheVariants.{Link, Name, Size}
use Rattle.zone_tree.specs.declared.archive.entry.EntryFault.TheVariants as entry_fault

-- a hard link to the name of a zone; a link to any other name finds no zone
abbrev pub link_content : (List ℕ → Bool) → Option (List ℕ) → Result Content Why
link_content is_zone (Some target) = if is_zone target then Ok (of_link target) else Err Link
link_content is_zone None = Err Name

abbrev pub content_of : Finds → List ℕ → Result Content Why
content_of finds name =
    if finds.is_zone name then finds.content name else link_content finds.is_zone (finds.target name)

-- some other name stands in it as in a folder
abbrev pub is_folder : List (List ℕ) → List ℕ → Bool
is_folder names name = list_any (λ other. starts_with nat_eq other (name ++ 47 ∷ [])) names

-- the name of the file that says a source's release, as compiled trees of distributions have it
abbrev pub version_name : List ℕ
version_name = codes "+VERSION"

-- it is that name, or stands in it as in a folder
abbrev pub is_reserved : List ℕ → Bool
is_reserved name = starts_with nat_eq (name ++ 47 ∷ []) (codes "+VERSION/")

-- a name that another one stands in, or that the release's file has
abbrev pub is_taken : List (List ℕ) → List ℕ → Bool
is_taken names name = is_folder names name || is_reserved name

-- an entry that can be said, or why it can't; what a link is to is a name too
abbrev pub said : EntryValue → Option EntryFault → Result EntryValue Why
said e None = Ok e
said e (Some entry_fault.Name) = Err Name
said e (Some entry_fault.Target) = Err Name
said e (Some entry_fault.Size) = Err Size

abbrev pub fitting : List ℕ → Content → Result EntryValue Why
fitting name content = said (entry name content) (entry_fault (entry name content))

abbrev pub entry_with : List (List ℕ) → List ℕ → Content → Result EntryValue Why
entry_with names name content = if is_taken names name then Err Name else fitting name content

abbrev pub entry_by : List (List ℕ) → List ℕ → Result Content Why → Result EntryValue Why
entry_by names name (Ok content) = entry_with names name content
entry_by names name (Err why) = Err why

-- the entry of a name, or why there is none: what it finds comes before what its name is
unfoldable pub entry_of : Finds → List ℕ → Result EntryValue Why
entry_of finds name = entry_by (finds.zones ++ finds.links) name (content_of finds name)

-- the file that says a release, in a line of its own
abbrev pub release_entry : List ℕ → Result EntryValue Why
release_entry release = fitting version_name (of_file (release ++ 10 ∷ []))
