-- The entry of each name, at worked rows.
use Rattle.std.{proofs.Common.{◌≡◌, ℕ, List, [], ◌∷◌, map, replicate, codes, Bool, true, false, Some, None, Ok, Err, refl, ap, ℤ, pos, negsuc}, specs.Prelude.{bytes_eq, if◌then◌else◌, ◌||◌}}
use Rattle.tz_lookup.specs.declared.set.FixedTimespanSet.{FixedTimespanSet}
use Rattle.zone_tree.specs.{Archives.{archive}, ArchiveEntries.{of_file, of_link, entry}, ArchiveNames.{cut, entry_fault, is_path}, Contents.{Found, has_mark, is_marked, file_or, file_unless, zone_content}}
use Rattle.zone_tree.specs.{Entries.{link_content, is_folder, is_reserved, is_taken, said, entry_by, entry_of}, TreeShape.{are_behind}, Names.{Finds, archive_names}, Trees.{entries_of, first_entries, joined, refused, tree_by}}
use Rattle.zone_tree.specs.declared.refusal.Why.TheVariants.{Schedule, OffsetRange, Format, File, Link, Name, Size}
use Rattle.zone_tree.specs.declared.archive.entry.EntryFault.TheVariants as entry_fault_is
use Rattle.zone_spans.specs.Schedules.{totals_of}
use Rattle.zone_spans.specs.declared.fault.SpanFault.TheVariants as span
use Rattle.zone_spans.specs.declared.span.FixedTimespanSet as spans
use Rattle.zone_tzif_core.specs.declared.values.WriteFault.TheVariants as write
use Rattle.zone_tzif.specs.Files.{consistent_fault, consistent_file}

-- ---- which names others stand in

abbrev some_names : List (List ℕ)
some_names = codes "A" ∷ codes "A/B" ∷ codes "A/B/C" ∷ codes "A/BC" ∷ codes "AB" ∷ codes "B" ∷ codes "X/B" ∷ codes "X/B/" ∷ []

-- a name stands in another one as in a folder where that one and a slash begin it: not in one that it only begins with, not in one
-- that stands in the middle of it, and not in itself
which_folders : map (is_folder some_names) some_names ≡ true ∷ true ∷ false ∷ false ∷ false ∷ false ∷ true ∷ false ∷ []
which_folders = refl

-- a name needn't be there to be a folder
no_name_of_them : map (is_folder some_names) (codes "X" ∷ codes "A/" ∷ codes "C" ∷ []) ≡ true ∷ false ∷ false ∷ []
no_name_of_them = refl

-- the name of the release's file, and what stands in it; a name beside others is taken by either
reserved_names : map is_reserved (codes "+VERSION" ∷ codes "+VERSION/A" ∷ codes "+VERSION/" ∷ codes "+VERSIONS" ∷ codes "+VERSIO" ∷ codes "A/+VERSION" ∷ codes "+version" ∷ [] ∷ [])
    ≡ true ∷ true ∷ true ∷ false ∷ false ∷ false ∷ false ∷ false ∷ []
reserved_names = refl

taken_names : map (is_taken some_names) (codes "+VERSION" ∷ codes "A" ∷ codes "AB" ∷ []) ≡ true ∷ true ∷ false ∷ []
taken_names = refl

-- ---- what a name of a zone, or of a link, finds

-- the spans of one offset
abbrev fixed_at : ℤ → spans.FixedTimespanSet
fixed_at offset = record { first = record { utc_offset = offset; dst_offset = pos 0; name = codes "T" }; rest = [] }

no_files : map (zone_content (codes "A"))
    (None ∷ Some (Err span.MissingUntil) ∷ Some (Err span.DayRange) ∷ Some (Ok (fixed_at (pos 93600))) ∷ Some (Ok (fixed_at (negsuc 93599))) ∷ [])
    ≡ Err Name ∷ Err (Schedule span.MissingUntil) ∷ Err (Schedule span.DayRange) ∷ Err OffsetRange ∷ Err OffsetRange ∷ []
unfolding totals_of
no_files = refl

no_file_of : (set : FixedTimespanSet) → map (λ fault. file_or (Some fault) set) (write.Times ∷ write.Types ∷ write.Names ∷ [])
    ≡ Err (File write.Times) ∷ Err (File write.Types) ∷ Err (File write.Names) ∷ []
no_file_of set = refl

-- a `%` anywhere in an abbreviation, of the first span or another
texts_with_marks : map has_mark (codes "%z" ∷ codes "A%sT" ∷ codes "T%" ∷ codes "EST" ∷ codes "+03" ∷ [] ∷ []) ≡ true ∷ true ∷ true ∷ false ∷ false ∷ false ∷ []
texts_with_marks = refl

abbrev three_named : List ℕ → List ℕ → List ℕ → FixedTimespanSet
three_named first second third = record {
  name = codes "%";
  first = record { utc_offset = pos 0; dst_offset = pos 0; name = first };
  others = (pos 1, record { utc_offset = pos 0; dst_offset = pos 0; name = second })
      ∷ (pos 2, record { utc_offset = pos 0; dst_offset = pos 0; name = third }) ∷ [];
}

sets_with_marks : map is_marked (three_named (codes "A") (codes "B") (codes "C") ∷ three_named (codes "%z") (codes "B") (codes "C")
    ∷ three_named (codes "A") (codes "%z") (codes "C") ∷ three_named (codes "A") (codes "B") (codes "%z") ∷ [])
    ≡ false ∷ true ∷ true ∷ true ∷ []
unfolding is_marked
sets_with_marks = refl

-- a mark comes before what the file would be refused for
marks_first : (set : FixedTimespanSet) → map (λ mark. file_unless mark set) (true ∷ false ∷ []) ≡ Err Format ∷ file_or (consistent_fault set) set ∷ []
marks_first set = refl

-- the file of the spans under the name of the zone
abbrev the_set : FixedTimespanSet
the_set = record { name = codes "A/B"; first = record { utc_offset = pos 3600; dst_offset = pos 0; name = codes "T" }; others = [] }

a_file : consistent_fault the_set ≡ None → zone_content (codes "A/B") (Some (Ok (fixed_at (pos 3600)))) ≡ Ok (of_file (consistent_file the_set))
unfolding totals_of is_marked
a_file sound = ap (λ fault. file_or fault the_set) sound

-- a link to a zone's own name; a link to a link, or to nothing, finds no zone
links : map (link_content (bytes_eq (codes "A/B"))) (Some (codes "A/B") ∷ Some (codes "A") ∷ Some (codes "A/BC") ∷ None ∷ [])
    ≡ Ok (of_link (codes "A/B")) ∷ Err Link ∷ Err Link ∷ Err Name ∷ []
links = refl

-- ---- what can't be said

refusals : map (said (entry (codes "A") (of_link (codes "B"))))
    (None ∷ Some entry_fault_is.Name ∷ Some entry_fault_is.Target ∷ Some entry_fault_is.Size ∷ [])
    ≡ Ok (entry (codes "A") (of_link (codes "B"))) ∷ Err Name ∷ Err Name ∷ Err Size ∷ []
refusals = refl

-- ---- the entries of two zones, and of links to one of them

abbrev is_own : List ℕ → Bool
is_own name = bytes_eq name (codes "A/B") || bytes_eq name (codes "D") || bytes_eq name (codes "../E") || bytes_eq name (replicate 101 65)

abbrev finds_of : Found → Finds
finds_of found = record {
  zones = codes "../E" ∷ codes "A/B" ∷ codes "D" ∷ [];
  links = codes "A/B" ∷ codes "C" ∷ codes "D/F" ∷ codes "L" ∷ codes "Y" ∷ codes "Z" ∷ [];
  is_zone = is_own;
  content = λ name. zone_content name found;
  target = λ name. if bytes_eq name (codes "Z") then Some (replicate 101 65) else (if bytes_eq name (codes "Y") then Some (codes "L") else Some (codes "A/B"));
}

-- a link is to its target, whatever that is compiled to; and a name that can't be said, or is a folder, or is a link to a link,
-- has no entry
link_entries : map (entry_of (finds_of (Some (Err span.DayRange)))) (codes "C" ∷ codes "D/F" ∷ codes "L/" ∷ codes "Y" ∷ codes "Z" ∷ [])
    ≡ Ok (entry (codes "C") (of_link (codes "A/B"))) ∷ Ok (entry (codes "D/F") (of_link (codes "A/B"))) ∷ Err Name ∷ Err Link ∷ Err Name ∷ []
unfolding entry_of entry_fault is_path cut
link_entries = refl

-- what is found comes before what the name is
what_is_found_first : map (entry_of (finds_of (Some (Err span.DayRange)))) (codes "A/B" ∷ codes "../E" ∷ codes "D" ∷ [])
    ≡ Err (Schedule span.DayRange) ∷ Err (Schedule span.DayRange) ∷ Err (Schedule span.DayRange) ∷ []
unfolding entry_of
what_is_found_first = refl

-- an entry with a file is refused for its name, or for another name that stands in it
bad_names : map (λ name. entry_by (codes "D" ∷ codes "D/F" ∷ []) name (Ok (of_file (1 ∷ []))))
    (codes "../E" ∷ codes "D" ∷ codes "A//B" ∷ codes "+VERSION" ∷ codes "A/B" ∷ [])
    ≡ Err Name ∷ Err Name ∷ Err Name ∷ Err Name ∷ Ok (entry (codes "A/B") (of_file (1 ∷ []))) ∷ []
unfolding entry_fault is_path cut
bad_names = refl

-- ---- all entries

-- the zones come first and then the links, each in byte order, and none is left out
in_their_order : archive_names (finds_of None)
    ≡ codes "../E" ∷ codes "A/B" ∷ codes "D" ∷ codes "C" ∷ codes "D/F" ∷ codes "L" ∷ codes "Y" ∷ codes "Z" ∷ []
in_their_order = refl

-- a file that says the release, in a line, where a source names one
the_release : map first_entries (None ∷ Some (codes "2026b") ∷ []) ≡ Ok [] ∷ Ok (entry (codes "+VERSION") (of_file (codes "2026b\n")) ∷ []) ∷ []
unfolding entry_fault is_path cut
the_release = refl

-- it comes first, and so does why it can't be said
it_comes_first : map (joined (Ok (entry (codes "A") (of_file []) ∷ [])))
    (Ok (entry (codes "B") (of_file []) ∷ []) ∷ Err (refused (codes "C") Size) ∷ [])
    ≡ Ok (entry (codes "A") (of_file []) ∷ entry (codes "B") (of_file []) ∷ []) ∷ Err (refused (codes "C") Size) ∷ []
it_comes_first = refl

its_fault_first : map (joined (Err (refused (codes "A") Size))) (Ok [] ∷ Err (refused (codes "C") Name) ∷ [])
    ≡ Err (refused (codes "A") Size) ∷ Err (refused (codes "A") Size) ∷ []
its_fault_first = refl

-- links to B, but for two names that have no entry: the first of them is told, wherever the other stands
two_refused : map (entries_of (λ name. if bytes_eq name (codes "C") then Err Size else (if bytes_eq name (codes "D") then Err Name
    else Ok (entry name (of_link (codes "B"))))))
    ([] ∷ (codes "E" ∷ codes "A" ∷ []) ∷ (codes "A" ∷ codes "C" ∷ codes "D" ∷ []) ∷ (codes "D" ∷ codes "C" ∷ codes "A" ∷ []) ∷ [])
    ≡ Ok [] ∷ Ok (entry (codes "E") (of_link (codes "B")) ∷ entry (codes "A") (of_link (codes "B")) ∷ [])
    ∷ Err (refused (codes "C") Size) ∷ Err (refused (codes "D") Name) ∷ []
unfolding entries_of
two_refused = refl

-- a link stands behind its file; not before it, behind a file of another name, or behind a link alone
behind : map (are_behind []) (
    (entry (codes "A") (of_file []) ∷ entry (codes "B") (of_link (codes "A")) ∷ entry (codes "C") (of_link (codes "A")) ∷ [])
    ∷ (entry (codes "B") (of_link (codes "A")) ∷ entry (codes "A") (of_file []) ∷ [])
    ∷ (entry (codes "A") (of_file []) ∷ entry (codes "B") (of_link (codes "AB")) ∷ [])
    ∷ (entry (codes "A") (of_file []) ∷ entry (codes "B") (of_link (codes "A")) ∷ entry (codes "C") (of_link (codes "B")) ∷ []) ∷ [])
    ≡ true ∷ false ∷ false ∷ false ∷ []
unfolding are_behind
behind = refl

-- the archive of a release, a zone A/B of one offset and a link 0 to it: the link stands behind its zone, though its name comes before
abbrev two_names : Finds
two_names = record {
  zones = codes "A/B" ∷ [];
  links = codes "0" ∷ [];
  is_zone = λ name. bytes_eq name (codes "A/B");
  content = λ name. zone_content name (Some (Ok (fixed_at (pos 3600))));
  target = λ name. Some (codes "A/B");
}

a_whole_tree : consistent_fault the_set ≡ None → entry_fault (entry (codes "A/B") (of_file (consistent_file the_set))) ≡ None
    → tree_by (Some (codes "2026b")) two_names ≡ Ok (archive (entry (codes "+VERSION") (of_file (codes "2026b\n")) ∷ entry (codes "A/B") (of_file (consistent_file the_set)) ∷ entry (codes "0") (of_link (codes "A/B")) ∷ []))
unfolding tree_by entries_of entry_of entry_fault is_path cut is_marked
a_whole_tree sound fits = rw (a_file sound, fits) refl
