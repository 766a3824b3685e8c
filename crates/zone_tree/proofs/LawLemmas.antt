-- The entries of an archive have the names that lines give, each finds a zone, and links stand behind what they are to.
use Rattle.std.proofs.{Common.{◌≡◌, ℕ, Bool, true, false, List, [], ◌∷◌, ◌++◌, All, not, reverse, cond, Option, Some, None, Result, Ok, Err, refl, sym, ap, ◌∙◌, subst}, lemmas.Bool.{and_from, or_left, or_right}}
use Rattle.std.proofs.{lemmas.List.Elements.{All-nil, All-cons, All-append}, lemmas.List.Folds.{list_any-append}, lemmas.Map.Text.{is_eq-slice_cmp}, lemmas.Slice.Eq.{bytes_eq-Decides}, Math.Bool.{and-false}}
use Rattle.std.specs.{Prelude.{◌&&◌, ◌||◌, is_some, bytes_eq, option_and_then, IsSomeAnd}, Cmp.{both_ways}, List.{AllByRecursion, list_any, flat_map}, Option.{option_or}, Ordering.{eq_by_cmp}}
use Rattle.basics.specs.{InOrderLaws.{any-in_order}, Keyed.{text_cmp}, KeyedLaws.{tied_texts}, Listed.{listed}}
use Rattle.zone_tree.specs.{Archives.{archive, IsArchive}, ArchiveEntries.{Content, of_file, of_link, EntryValue, entry}, ArchiveNames.{entry_fault}, declared.archive.entry.EntryFault.{EntryFault}}
use Rattle.zone_tree.specs.Contents.{Found, file_or, file_unless, is_marked, zone_content}
use Rattle.zone_tree.specs.declared.archive.entry.EntryFault.TheVariants as fault_is
use Rattle.zone_source.specs.{Releases.{release_of}, Faults.{SourceFault, source_fault}, Zones.{values_of, zone_in}}
use Rattle.zone_run.specs.Causes.{named}
use Rattle.zone_spans.specs.Schedules.{totals_of, is_in_offset_range}
use Rattle.zone_table.specs.{Joined.{zone_of, link_of}, declared.zone.ZoneInfo.{ZoneInfo}, Values.{LineValue}}
use Rattle.zone_tree.specs.Entries.{
  link_content,
  content_of,
  version_name,
  is_folder,
  is_reserved,
  is_taken,
  said,
  fitting,
  entry_with,
  entry_by,
  entry_of,
  release_entry,
}
use Rattle.zone_tree.specs.{TreeShape.{are_behind, version_entries, IsTree}, Names.{Finds, finds_by, finds_in, found_in, given_names, names_by, others, archive_names}}
use Rattle.zone_tree.specs.{Trees.{Refused, onto, entries_of, first_entries, before, joined, archive_of, tree_by, or_cause, after_source, tree_of}, declared.refusal.Why.{Why}, declared.refusal.Why.TheVariants.{OffsetRange, Link, Name}}
use Rattle.zone_tree.proofs.NameLemmas.{text_same, zones_given, links_given, names_given}
use Rattle.zone_tzif_core.specs.declared.values.WriteFault.{WriteFault}
use Rattle.zone_tzif.specs.Files.{consistent_fault}

-- what is Ok, and else another value
abbrev given : {A E : Type 0} → A → Result A E → A
given d (Ok x) = x
given d (Err e) = d

pub ok_same : {A E : Type 0} (x y : A) → ◌≡◌ {A = Result A E} (Ok x) (Ok y) → x ≡ y
ok_same x y h = ap (given x) h

-- ---- the entry of a name

-- it has that name and this content, and can be said
record IsEntry (name : List ℕ) (content : Content) (e : EntryValue) : Type 0 where
  is : entry name content ≡ e
  fits : entry_fault e ≡ None

said_is : (name : List ℕ) (content : Content) (e : EntryValue) → said (entry name content) (entry_fault (entry name content)) ≡ Ok e
    → IsEntry name content e
said_is name content e h = by_fault (entry_fault (entry name content)) refl h
  where
    by_fault : (fault : Option EntryFault) → entry_fault (entry name content) ≡ fault → said (entry name content) fault ≡ Ok e → IsEntry name content e
    by_fault None f h =
        let is = ok_same (entry name content) e h in
        record { is = is; fits = subst (λ d. entry_fault d ≡ None) is f }
    by_fault (Some fault_is.Name) f h = absurd cc
    by_fault (Some fault_is.Target) f h = absurd cc
    by_fault (Some fault_is.Size) f h = absurd cc

with_is : (names : List (List ℕ)) (name : List ℕ) (content : Content) (e : EntryValue) → entry_with names name content ≡ Ok e → IsEntry name content e
with_is names name content e h = by_folder (is_taken names name) h
  where
    by_folder : (b : Bool) → cond b (Err Name) (fitting name content) ≡ Ok e → IsEntry name content e
    by_folder true h = absurd cc
    by_folder false h = said_is name content e h

record HasContent (name : List ℕ) (found : Result Content Why) (e : EntryValue) : Type 0 where
  content : Content
  is_found : found ≡ Ok content
  is_entry : IsEntry name content e

by_is : (names : List (List ℕ)) (name : List ℕ) (found : Result Content Why) (e : EntryValue) → entry_by names name found ≡ Ok e
    → HasContent name found e
by_is names name (Ok content) e h = record { content = content; is_found = refl; is_entry = with_is names name content e h }
by_is names name (Err why) e h = absurd cc

of_name : (finds : Finds) (name : List ℕ) (e : EntryValue) → entry_of finds name ≡ Ok e → HasContent name (content_of finds name) e
unfolding entry_of
of_name finds name e h = by_is (finds.zones ++ finds.links) name (content_of finds name) e h

-- ---- no name is that of the release's file

free_with : (names : List (List ℕ)) (name : List ℕ) (content : Content) (e : EntryValue) → entry_with names name content ≡ Ok e
    → is_reserved name ≡ false
free_with names name content e h = by (is_folder names name) (is_reserved name) refl h
  where
    by : (b c : Bool) → is_reserved name ≡ c → cond (b || c) (Err Name) (fitting name content) ≡ Ok e → is_reserved name ≡ false
    by true c is h = absurd cc
    by false true is h = absurd cc
    by false false is h = is

free_by : (names : List (List ℕ)) (name : List ℕ) (found : Result Content Why) (e : EntryValue) → entry_by names name found ≡ Ok e
    → is_reserved name ≡ false
free_by names name (Ok content) e h = free_with names name content e h
free_by names name (Err why) e h = absurd cc

free_name : (finds : Finds) (name : List ℕ) (e : EntryValue) → entry_of finds name ≡ Ok e → is_reserved name ≡ false
unfolding entry_of
free_name finds name e h = free_by (finds.zones ++ finds.links) name (content_of finds name) e h

apart : (name : List ℕ) → is_reserved name ≡ false → bytes_eq version_name name ≡ false
apart name free = by (bytes_eq version_name name) refl
  where
    reserved : version_name ≡ name → is_reserved name ≡ true
    reserved same = ap is_reserved (sym same)

    by : (b : Bool) → bytes_eq version_name name ≡ b → bytes_eq version_name name ≡ false
    by false e = e
    by true e = let is = reserved ((bytes_eq-Decides version_name name).0 e) in absurd cc

-- ---- a zone has a file, another name a link

pub record IsFile (content : Content) : Type 0 where
  pub bytes : List ℕ
  pub is : of_file bytes ≡ content

file_is : (name : List ℕ) (found : Found) (content : Content) → zone_content name found ≡ Ok content → IsFile content
file_is name None content h = absurd cc
file_is name (Some (Err fault)) content h = absurd cc
file_is name (Some (Ok set)) content h = by_range (is_in_offset_range (totals_of set)) h
  where
    by_fault : (fault : Option WriteFault) → file_or fault (named name set) ≡ Ok content → IsFile content
    by_fault None h = record { bytes = _; is = ok_same _ content h }
    by_fault (Some fault) h = absurd cc

    by_mark : (b : Bool) → file_unless b (named name set) ≡ Ok content → IsFile content
    by_mark true h = absurd cc
    by_mark false h = by_fault (consistent_fault (named name set)) h

    by_range : (b : Bool) → cond b (file_unless (is_marked (named name set)) (named name set)) (Err OffsetRange) ≡ Ok content → IsFile content
    by_range true h = by_mark (is_marked (named name set)) h
    by_range false h = absurd cc

-- whatever a zone has is a file
abbrev pub HasFiles : (List ℕ → Result Content Why) → Type 0
HasFiles content = (name : List ℕ) (c : Content) → content name ≡ Ok c → IsFile c

record IsLink (is_zone : List ℕ → Bool) (target : Option (List ℕ)) (content : Content) : Type 0 where
  to : List ℕ
  is_target : target ≡ Some to
  own : is_zone to ≡ true
  is : of_link to ≡ content

link_is : (is_zone : List ℕ → Bool) (target : Option (List ℕ)) (content : Content) → link_content is_zone target ≡ Ok content
    → IsLink is_zone target content
link_is is_zone None content h = absurd cc
link_is is_zone (Some to) content h = by_own (is_zone to) refl h
  where
    by_own : (b : Bool) → is_zone to ≡ b → cond b (Ok (of_link to)) (Err Link) ≡ Ok content → IsLink is_zone (Some to) content
    by_own true own h = record { to = to; is_target = refl; own = own; is = ok_same (of_link to) content h }
    by_own false own h = absurd cc

-- ---- the entries of names, one after another

record AreOnto (name : List ℕ) (first : Result EntryValue Why) (rest : Result (List EntryValue) Refused) (entries : List EntryValue) : Type 0 where
  e : EntryValue
  others : List EntryValue
  is_first : first ≡ Ok e
  are_rest : rest ≡ Ok others
  are : e ∷ others ≡ entries

onto_is : (name : List ℕ) (first : Result EntryValue Why) (rest : Result (List EntryValue) Refused) (entries : List EntryValue)
    → onto name first rest ≡ Ok entries → AreOnto name first rest entries
onto_is name (Ok e) (Ok others) entries h =
    record { e = e; others = others; is_first = refl; are_rest = refl; are = ok_same (e ∷ others) entries h }
onto_is name (Ok e) (Err first) entries h = absurd cc
onto_is name (Err why) (Ok others) entries h = absurd cc
onto_is name (Err why) (Err first) entries h = absurd cc

all_said : (finds : Finds) (names : List (List ℕ)) (entries : List EntryValue) → entries_of (entry_of finds) names ≡ Ok entries
    → All (λ e. entry_fault e ≡ None) entries
unfolding entries_of
all_said finds [] entries h = subst (All (λ e. entry_fault e ≡ None)) (ok_same [] entries h) (All-nil (λ e. entry_fault e ≡ None))
all_said finds (name ∷ names) entries h =
    let is = onto_is name (entry_of finds name) (entries_of (entry_of finds) names) entries h in
    let has = of_name finds name is.e is.is_first in
    subst (All (λ e. entry_fault e ≡ None)) is.are
    (All-cons (λ e. entry_fault e ≡ None) is.e is.others has.is_entry.fits (all_said finds names is.others is.are_rest))

all_named : (finds : Finds) (names : List (List ℕ)) (entries : List EntryValue) → entries_of (entry_of finds) names ≡ Ok entries
    → (test : List ℕ → Bool) → list_any (λ e. test e.name) entries ≡ list_any test names
unfolding entries_of
all_named finds [] entries h test = ap (list_any (λ e. test e.name)) (sym (ok_same [] entries h))
all_named finds (name ∷ names) entries h test =
    let is = onto_is name (entry_of finds name) (entries_of (entry_of finds) names) entries h in
    let has = of_name finds name is.e is.is_first in
    ap (list_any (λ e. test e.name)) (sym is.are)
    ∙ (λ i. test (sym has.is_entry.is i).name || all_named finds names is.others is.are_rest test i)

all_apart : (finds : Finds) (names : List (List ℕ)) (entries : List EntryValue) → entries_of (entry_of finds) names ≡ Ok entries
    → list_any (bytes_eq version_name) names ≡ false
unfolding entries_of
all_apart finds [] entries h = refl
all_apart finds (name ∷ names) entries h =
    let is = onto_is name (entry_of finds name) (entries_of (entry_of finds) names) entries h in
    (λ i. apart name (free_name finds name is.e is.is_first) i || all_apart finds names is.others is.are_rest i)

-- ---- the release's file

record AreFirst (release : Option (List ℕ)) (firsts : List EntryValue) : Type 0 where
  are : version_entries release ≡ firsts
  said : All (λ e. entry_fault e ≡ None) firsts

first_are : (release : Option (List ℕ)) (firsts : List EntryValue) → first_entries release ≡ Ok firsts → AreFirst release firsts
first_are None firsts h =
    let is = ok_same [] firsts h in
    record { are = is; said = subst (All (λ e. entry_fault e ≡ None)) is (All-nil (λ e. entry_fault e ≡ None)) }
first_are (Some release) firsts h =
    let is = onto_is version_name (release_entry release) (Ok []) firsts h in
    let entry_is = said_is version_name (of_file (release ++ 10 ∷ [])) is.e is.is_first in
    let none = ok_same [] is.others is.are_rest in
    record {
      are = (λ i. entry_is.is i ∷ none i) ∙ is.are;
      said = subst (All (λ e. entry_fault e ≡ None)) is.are
          (All-cons (λ e. entry_fault e ≡ None) is.e is.others entry_is.fits
          (subst (All (λ e. entry_fault e ≡ None)) none (All-nil (λ e. entry_fault e ≡ None))));
    }

-- ---- links behind files

-- these names before those, the last first
abbrev back : List (List ℕ) → List (List ℕ) → List (List ℕ)
back [] files = files
back (name ∷ names) files = back names (name ∷ files)

still_there : (test : List ℕ → Bool) (names files : List (List ℕ)) → list_any test files ≡ true → list_any test (back names files) ≡ true
still_there test [] files h = h
still_there test (name ∷ names) files h = still_there test names (name ∷ files) (or_right (test name) (list_any test files) h)

is_there : (test : List ℕ → Bool) (names files : List (List ℕ)) → list_any test names ≡ true → list_any test (back names files) ≡ true
is_there test [] files h = absurd cc
is_there test (name ∷ names) files h = by_test (test name) refl h (is_there test names (name ∷ files))
  where
    by_test : (b : Bool) → test name ≡ b → (b || list_any test names) ≡ true
        → (list_any test names ≡ true → list_any test (back names (name ∷ files)) ≡ true) → list_any test (back names (name ∷ files)) ≡ true
    by_test true e h more = still_there test names (name ∷ files) (or_left (test name) (list_any test files) e)
    by_test false e h more = more h

-- each zone's own name is among these
abbrev HasZones : Finds → List (List ℕ) → Type 0
HasZones finds files = (target : List ℕ) → finds.is_zone target ≡ true → list_any (bytes_eq target) files ≡ true

links_behind : (finds : Finds) (files names : List (List ℕ)) (entries : List EntryValue) → HasZones finds files
    → AllByRecursion (λ name. finds.is_zone name ≡ false) names → entries_of (entry_of finds) names ≡ Ok entries
    → are_behind files entries ≡ true
unfolding entries_of are_behind
links_behind finds files [] entries there all h = subst (λ es. are_behind files es ≡ true) (ok_same [] entries h) refl
links_behind finds files (name ∷ names) entries there all h =
    let is = onto_is name (entry_of finds name) (entries_of (entry_of finds) names) entries h in
    let has = of_name finds name is.e is.is_first in
    let found = ap (λ b. cond b (finds.content name) (link_content finds.is_zone (finds.target name))) (sym all.0)
    ∙ has.is_found in
    let link = link_is finds.is_zone (finds.target name) has.content found in
    subst (λ es. are_behind files es ≡ true) is.are
    (subst (λ e. are_behind files (e ∷ is.others) ≡ true) (ap (entry name) link.is ∙ has.is_entry.is)
    (and_from _ _ (there link.to link.own) (links_behind finds files names is.others there all.1 is.are_rest)))

zones_first : (finds : Finds) → HasFiles finds.content → (behind own others : List (List ℕ)) (entries : List EntryValue) → AllByRecursion (λ name. finds.is_zone name ≡ true) own
    → entries_of (entry_of finds) (own ++ others) ≡ Ok entries
    → ((rest : List EntryValue) → entries_of (entry_of finds) others ≡ Ok rest → are_behind (back own behind) rest ≡ true)
    → are_behind behind entries ≡ true
unfolding entries_of are_behind
zones_first finds files behind [] others entries all h more = more entries h
zones_first finds files behind (name ∷ own) others entries all h more =
    let is = onto_is name (entry_of finds name) (entries_of (entry_of finds) (own ++ others)) entries h in
    let has = of_name finds name is.e is.is_first in
    let found = ap (λ b. cond b (finds.content name) (link_content finds.is_zone (finds.target name))) (sym all.0) ∙ has.is_found in
    let file = files name has.content found in
    subst (λ es. are_behind behind es ≡ true) is.are
    (subst (λ e. are_behind behind (e ∷ is.others) ≡ true) (ap (entry name) file.is ∙ has.is_entry.is)
    (zones_first finds files (name ∷ behind) own others is.others all.1 is.are_rest more))

-- ---- what holds of each of some names

all_others : (is_zone : List ℕ → Bool) (names : List (List ℕ)) → AllByRecursion (λ name. is_zone name ≡ false) (others is_zone names)
all_others is_zone [] = tt
all_others is_zone (name ∷ names) = by_test (is_zone name) refl (all_others is_zone names)
  where
    by_test : (b : Bool) → is_zone name ≡ b → AllByRecursion (λ name. is_zone name ≡ false) (others is_zone names)
        → AllByRecursion (λ name. is_zone name ≡ false) (cond (not b) (name ∷ others is_zone names) (others is_zone names))
    by_test true e rest = rest
    by_test false e rest = (e, rest)

all_among : (P : List ℕ → Type 0) (names : List (List ℕ)) → ((name : List ℕ) → list_any (eq_by_cmp text_cmp name) names ≡ true → P name)
    → AllByRecursion P names
all_among P [] h = tt
all_among P (name ∷ names) h = (
  h name (or_left (eq_by_cmp text_cmp name name) _ (tied_texts name name ∙ (bytes_eq-Decides name name).1 refl)),
  all_among P names (λ other there. h other (or_right (eq_by_cmp text_cmp other name) _ there)),
)

one_among : (P : List ℕ → Type 0) (names : List (List ℕ)) (name : List ℕ) → AllByRecursion P names → list_any (bytes_eq name) names ≡ true → P name
one_among P [] name all h = absurd cc
one_among P (other ∷ names) name all h = by_test (bytes_eq name other) refl h (one_among P names name all.1)
  where
    by_test : (b : Bool) → bytes_eq name other ≡ b → (b || list_any (bytes_eq name) names) ≡ true
        → (list_any (bytes_eq name) names ≡ true → P name) → P name
    by_test true e h more = subst P (sym ((bytes_eq-Decides name other).0 e)) all.0
    by_test false e h more = more h

-- the test of bytes is that of the order
one_test : (name : List ℕ) → ◌≡◌ {A = List ℕ → Bool} (eq_by_cmp text_cmp name) (bytes_eq name)
one_test name = λ i other. is_eq-slice_cmp name other i

-- the others are those of the names that are no zone's own
among_others : (is_zone : List ℕ → Bool) (names : List (List ℕ)) (name : List ℕ)
    → list_any (bytes_eq name) (others is_zone names) ≡ (not (is_zone name) && list_any (bytes_eq name) names)
among_others is_zone [] name = sym (and-false (not (is_zone name)))
among_others is_zone (other ∷ names) name =
    by_test (among_others is_zone names name) (bytes_eq name other) refl (is_zone other) refl
  where
    same : bytes_eq name other ≡ true → (b : Bool) → is_zone other ≡ b → is_zone name ≡ b
    same e b own = ap is_zone ((bytes_eq-Decides name other).0 e) ∙ own

    by_test : list_any (bytes_eq name) (others is_zone names) ≡ (not (is_zone name) && list_any (bytes_eq name) names)
        → (e : Bool) → bytes_eq name other ≡ e → (b : Bool) → is_zone other ≡ b
        → list_any (bytes_eq name) (cond (not (is_zone other)) (other ∷ others is_zone names) (others is_zone names))
        ≡ (not (is_zone name) && (bytes_eq name other || list_any (bytes_eq name) names))
    by_test more true e true own =
        ap (λ b. list_any (bytes_eq name) (cond (not b) (other ∷ others is_zone names) (others is_zone names))) own ∙ more
        ∙ ap (λ b. not b && list_any (bytes_eq name) names) (same e true own)
        ∙ ap (λ b. not b && (bytes_eq name other || list_any (bytes_eq name) names)) (sym (same e true own))
    by_test more true e false own =
        ap (λ b. list_any (bytes_eq name) (cond (not b) (other ∷ others is_zone names) (others is_zone names))) own
        ∙ ap (λ b. b || list_any (bytes_eq name) (others is_zone names)) e
        ∙ ap (λ b. b || list_any (bytes_eq name) names) (sym e)
        ∙ ap (λ b. not b && (bytes_eq name other || list_any (bytes_eq name) names)) (sym (same e false own))
    by_test more false e true own =
        ap (λ b. list_any (bytes_eq name) (cond (not b) (other ∷ others is_zone names) (others is_zone names))) own ∙ more
        ∙ ap (λ b. not (is_zone name) && (b || list_any (bytes_eq name) names)) (sym e)
    by_test more false e false own =
        ap (λ b. list_any (bytes_eq name) (cond (not b) (other ∷ others is_zone names) (others is_zone names))) own
        ∙ ap (λ b. b || list_any (bytes_eq name) (others is_zone names)) e ∙ more
        ∙ ap (λ b. not (is_zone name) && (b || list_any (bytes_eq name) names)) (sym e)

-- ---- the names of a source

zones_hold : (source name : List ℕ) → list_any (bytes_eq name) (finds_in source).zones ≡ (finds_in source).is_zone name
zones_hold source name =
    ap (λ test. list_any test (finds_in source).zones) (sym (one_test name))
    ∙ any-in_order text_same (eq_by_cmp text_cmp name) _ ∙ zones_given (reverse (values_of source)) name

links_hold : (source name : List ℕ) → list_any (bytes_eq name) (finds_in source).links ≡ is_some ((finds_in source).target name)
links_hold source name =
    ap (λ test. list_any test (finds_in source).links) (sym (one_test name))
    ∙ any-in_order text_same (eq_by_cmp text_cmp name) _ ∙ links_given (reverse (values_of source)) name

-- those of the archive are those that lines give
all_given : (source name : List ℕ) → list_any (bytes_eq name) (archive_names (finds_in source)) ≡ list_any (bytes_eq name) (given_names source)
unfolding given_names
all_given source name =
    let finds = finds_in source in
    list_any-append (bytes_eq name) finds.zones (others finds.is_zone finds.links)
    ∙ (λ i. zones_hold source name i || among_others finds.is_zone finds.links name i)
    ∙ ap (λ b. finds.is_zone name || (not (finds.is_zone name) && b)) (links_hold source name)
    ∙ either (finds.is_zone name) (is_some (finds.target name)) ∙ sym (names_given (reverse (values_of source)) name)
    ∙ ap (λ test. list_any test (flat_map names_by (reverse (values_of source)))) (one_test name)
  where
    either : (a b : Bool) → (a || (not a && b)) ≡ (a || b)
    either true b = refl
    either false b = refl

owns : (source : List ℕ) → AllByRecursion (λ name. (finds_in source).is_zone name ≡ true) (finds_in source).zones
owns source = all_among _ (finds_in source).zones
    (λ name among. sym (zones_hold source name) ∙ ap (λ test. list_any test (finds_in source).zones) (sym (one_test name)) ∙ among)

-- ---- each finds a zone

-- a name with an entry is a zone's own, or a link to such a name
record HasZone (finds : Finds) (name : List ℕ) : Type 0 where
  target : (finds.is_zone name ≡ false) → IsSomeAnd (finds.target name) (λ to. finds.is_zone to ≡ true)

all_found : (finds : Finds) (names : List (List ℕ)) (entries : List EntryValue) → entries_of (entry_of finds) names ≡ Ok entries
    → AllByRecursion (HasZone finds) names
unfolding entries_of
all_found finds [] entries h = tt
all_found finds (name ∷ names) entries h =
    let is = onto_is name (entry_of finds name) (entries_of (entry_of finds) names) entries h in
    let has = of_name finds name is.e is.is_first in (
      record {
        target = λ other.
            let found = ap (λ b. cond b (finds.content name) (link_content finds.is_zone (finds.target name))) (sym other)
            ∙ has.is_found in
            let link = link_is finds.is_zone (finds.target name) has.content found in
            subst (λ target. IsSomeAnd target (λ to. finds.is_zone to ≡ true)) (sym link.is_target) link.own;
      },
      all_found finds names is.others is.are_rest,
    )

by_lines : (source : List ℕ) (content : List ℕ → Result Content Why) (name : List ℕ) → HasZone (finds_by source content) name → is_some (zone_in source name) ≡ true
unfolding zone_in
by_lines source content name has = by_own (listed (zone_of (reverse (values_of source)) name)) refl
  where
    latest : List LineValue
    latest = reverse (values_of source)

    by_target : (target : Option (List ℕ)) → IsSomeAnd target (λ to. is_some (listed (zone_of latest to)) ≡ true)
        → is_some (option_and_then (λ existing. listed (zone_of latest existing)) target) ≡ true
    by_target None is = absurd is
    by_target (Some to) is = is

    by_own : (own : Option (List ZoneInfo)) → listed (zone_of latest name) ≡ own
        → is_some (option_or own (option_and_then (λ existing. listed (zone_of latest existing)) (link_of latest name))) ≡ true
    by_own (Some lines) e = refl
    by_own None e = by_target (link_of latest name) (has.target (ap is_some e))

found_given : (source name : List ℕ) → is_some (zone_in source name) ≡ true → list_any (bytes_eq name) (given_names source) ≡ true
unfolding zone_in given_names
found_given source name h =
    ap (λ test. list_any test (flat_map names_by latest)) (sym (one_test name)) ∙ names_given latest name
    ∙ by_own (listed (zone_of latest name)) (link_of latest name) h
  where
    latest : List LineValue
    latest = reverse (values_of source)

    by_own : (own : Option (List ZoneInfo)) (target : Option (List ℕ))
        → is_some (option_or own (option_and_then (λ existing. listed (zone_of latest existing)) target)) ≡ true
        → (is_some own || is_some target) ≡ true
    by_own (Some lines) target h = refl
    by_own None None h = absurd cc
    by_own None (Some to) h = refl

-- ---- the archive of a source

pub tree_with : (source bytes : List ℕ) (content : List ℕ → Result Content Why) → HasFiles content
    → after_source (source_fault source) (tree_by (release_of source) (finds_by source content)) ≡ Ok bytes → IsTree source bytes
unfolding tree_by
tree_with source bytes content files h = by_fault (source_fault source) h
  where
    finds : Finds
    finds = finds_by source content

    given : (entries : List EntryValue) → entries_of (entry_of finds) (archive_names finds) ≡ Ok entries → (name : List ℕ)
        → list_any (λ e. bytes_eq name e.name) entries ≡ list_any (bytes_eq name) (given_names source)
    given entries e name = all_named finds (archive_names finds) entries e (bytes_eq name) ∙ all_given source name

    archived : (firsts entries : List EntryValue) → AreFirst (release_of source) firsts → entries_of (entry_of finds) (archive_names finds) ≡ Ok entries
        → archive (firsts ++ entries) ≡ bytes → IsArchive bytes (version_entries (release_of source) ++ entries)
    archived firsts entries first e written = record {
      said = subst (λ fs. All (λ e. entry_fault e ≡ None) (fs ++ entries)) (sym first.are)
          (All-append (λ e. entry_fault e ≡ None) firsts entries first.said (all_said finds (archive_names finds) entries e));
      written = sym written ∙ ap (λ fs. archive (fs ++ entries)) (sym first.are);
    }

    by_entries : (firsts : List EntryValue) (found : Result (List EntryValue) Refused) → first_entries (release_of source) ≡ Ok firsts
        → entries_of (entry_of finds) (archive_names finds) ≡ found → or_cause (archive_of (before firsts found)) ≡ Ok bytes → IsTree source bytes
    by_entries firsts (Ok entries) f e h = record {
      entries = entries;
      is_archive = archived firsts entries (first_are (release_of source) firsts f) e (ok_same (archive (firsts ++ entries)) bytes h);
      apart = all_named finds (archive_names finds) entries e (bytes_eq version_name) ∙ all_apart finds (archive_names finds) entries e;
      each = given entries e;
      found = λ name. given entries e name ∙ both_ways _ _
          (λ among. by_lines source content name (one_among (HasZone finds) (archive_names finds) name
          (all_found finds (archive_names finds) entries e) (all_given source name ∙ among)))
          (found_given source name);
      behind = zones_first finds files [] finds.zones (others finds.is_zone finds.links) entries (owns source) e
          (λ rest f. links_behind finds (back finds.zones []) (others finds.is_zone finds.links) rest
          (λ target own. is_there (bytes_eq target) finds.zones [] (zones_hold source target ∙ own)) (all_others finds.is_zone finds.links) f);
    }
    by_entries firsts (Err first) f e h = absurd cc

    by_first : (found : Result (List EntryValue) Refused) → first_entries (release_of source) ≡ found
        → or_cause (archive_of (joined found (entries_of (entry_of finds) (archive_names finds)))) ≡ Ok bytes → IsTree source bytes
    by_first (Ok firsts) f h = by_entries firsts (entries_of (entry_of finds) (archive_names finds)) f refl h
    by_first (Err first) f h = absurd cc

    by_fault : (fault : Option SourceFault)
        → after_source fault (archive_of (joined (first_entries (release_of source)) (entries_of (entry_of finds) (archive_names finds)))) ≡ Ok bytes
        → IsTree source bytes
    by_fault (Some fault) h = absurd cc
    by_fault None h = by_first (first_entries (release_of source)) refl h

pub tree_is : (source bytes : List ℕ) → tree_of source ≡ Ok bytes → IsTree source bytes
unfolding tree_of
tree_is source bytes h =
    tree_with source bytes (λ name. zone_content name (found_in source name)) (λ name content. file_is name (found_in source name) content) h
