-- The archive of a table's zones for ever.
use Rattle.std.proofs.Common.{◌≡◌, ℕ, ◌+◌, ◌<◌, ◌≤◌, Bool, true, false, cond, ◌||◌, List, [], ◌∷◌, ◌++◌, map, drop, length, get_or, All, Option, Some, None, Result, Ok, Err, MatchOption, refl, sym, ap, ◌∙◌, subst, arith, append_assoc, append-nil, suc, pos}
use Rattle.std.proofs.lemmas.List.{drop_more, drop_all, map-append, Elements.{All-nil, All-cons, All-append}}
use Rattle.std.specs.{Prelude.{bytes_eq}, Borrow.{Bor}, FinMap.{keys}, List.{list_any}}
use Rattle.tz_lookup.specs.{Databases.{name_shown}, Sets.{span_in}, declared.set.FixedTimespanSet.{FixedTimespanSet}}
use Rattle.tz_ever.specs.{Opens.{IsEverFault, IsFoundForEver}, declared.open.EverFault.{EverFault}}
use Rattle.zone_source.specs.{Faults.{source_fault}, Releases.{release_of}, Told.{TellsOfSource}, Zones.{values_of}, declared.error.SourceError.{SourceError}}
use Rattle.zone_tree.specs.{ArchiveEntries.{Content, of_file, of_link}, Contents.{has_mark, is_marked}, EverTold.{IsEverFaultOf, IsFirstEver, RefusesName, TellsWhy, made_shown}}
use Rattle.zone_tree.specs.{EverTrees.{AreContents, Contents, HasContent, unopened, unwritten, IsEverCause, IsEverTree, OfSource, OfTree, content_in, file_why, zone_why}, Names.{finds_by_table, finds_by}, Told.{IsFirst}}
use Rattle.zone_tree.specs.{Trees.{Cause, Refused, of_name, of_source, or_cause, refused, tree_by, after_source}, declared.ever.Made.{Made}, declared.refusal.NameFault.{NameFault}, declared.refusal.TreeFault.{TreeFault}, declared.refusal.Why.{Why}}
use Rattle.zone_tree.specs.{declared.refusal.Why.TheVariants.{Name}, TreeShape.{IsTree}}
use Rattle.zone_tree.proofs.{LawLemmas.{HasFiles, IsFile, ok_same, tree_with}, NameLemmas.{finds_same}}
use Rattle.zone_tree.specs.declared.refusal.NameFault.TheVariants as name
use Rattle.zone_tree.specs.declared.refusal.TreeFault.TheVariants as tree
use Rattle.zone_spans.specs.Entries.{Entry}
use Rattle.zone_table.specs.{Tables.{IsTableOf}, declared.table.Table.{Table}}
use Rattle.zone_tzif.specs.{EverFiles.{IsEverFileFault}, declared.ever.EverFileFault.{EverFileFault}}

-- ---- marks

abbrev pub mark_in : Entry → Bool
mark_in e = has_mark e.1.name

-- a mark is among the entries where it is among those from a place on
abbrev pub MarksLeft : List Entry → ℕ → Type 0
MarksLeft es i = list_any mark_in (drop i es) ≡ list_any mark_in es

next : (n : ℕ) → suc n ≡ n + 1
next n = omega arith

abbrev pub there : FixedTimespanSet → ℕ → Bool
there set n = has_mark (span_in set n).name

module _ (set : FixedTimespanSet) (i : ℕ) (is : MarksLeft set.others i) where
  mark_step : i < length set.others → (there set (i + 1) || list_any mark_in (drop (i + 1) set.others)) ≡ list_any mark_in set.others
  mark_step l =
      ap (λ n. there set n || list_any mark_in (drop (i + 1) set.others)) (sym (next i))
      ∙ sym (ap (list_any mark_in) (drop_more set.others i (pos 0, set.first) l)) ∙ is

  pub mark_found : i < length set.others → true ≡ there set (i + 1) → true ≡ is_marked set
  unfolding is_marked
  mark_found l found =
      or_true (has_mark set.first.name) ∙ ap (λ b. has_mark set.first.name || b)
      (ap (λ b. b || list_any mark_in (drop (i + 1) set.others)) found ∙ mark_step l)
    where
      or_true : (b : Bool) → true ≡ (b || true)
      or_true true = refl
      or_true false = refl

  pub mark_more : i < length set.others → false ≡ there set (i + 1) → MarksLeft set.others (i + 1)
  mark_more l none = ap (λ b. b || list_any mark_in (drop (i + 1) set.others)) none ∙ mark_step l

  pub mark_end : length set.others ≤ i → (r : Bool) → r ≡ has_mark set.first.name → r ≡ is_marked set
  unfolding is_marked
  mark_end over r last = last ∙ or_false (has_mark set.first.name) ∙ ap (λ b. has_mark set.first.name || b) (ap (list_any mark_in) (sym (drop_all i set.others over)) ∙ is)
    where
      or_false : (b : Bool) → b ≡ (b || false)
      or_false true = refl
      or_false false = refl

-- ---- why a zone has no file

pub not_opened : (table : Table) (text : List ℕ) (fault : EverFault) (told : NameFault) → IsEverFault table text fault → TellsWhy (zone_why fault) told
    → RefusesName table text told
not_opened table text fault (name.Refused why) is tells = unopened fault is tells
not_opened table text fault name.NoMemory is tells = tt

pub not_written : (table : Table) (text : List ℕ) (set : FixedTimespanSet) (fault : EverFileFault) (told : NameFault) → IsFoundForEver table text set
    → is_marked set ≡ false → IsEverFileFault set fault → TellsWhy (file_why fault) told → RefusesName table text told
not_written table text set fault (name.Refused why) found unmarked is tells = unwritten set fault found unmarked is tells
not_written table text set fault name.NoMemory found unmarked is tells = tt

-- ---- the zones one after another

-- those of the names so far
pub record MadeSoFar (table : Table) (names : List (Bor (List ℕ))) (i : ℕ) (made : List Made) : Type 0 where
  pub names_are : map (λ (c : List ℕ × Result Content Why). c.0) (map made_shown made) ++ map name_shown (drop i names) ≡ map name_shown names
  pub each : All (λ (c : List ℕ × Result Content Why). HasContent table c.0 c.1) (map made_shown made)

pub none_made : (table : Table) (names : List (Bor (List ℕ))) (made : List Made) → made ≡ [] → MadeSoFar table names 0 made
none_made table names made none = subst (MadeSoFar table names 0) (sym none) (record { names_are = refl; each = All-nil (λ (c : List ℕ × Result Content Why). HasContent table c.0 c.1) })

pub one_made : (table : Table) (names : List (Bor (List ℕ))) (i : ℕ) (d : Bor (List ℕ)) (made grown : List Made) (m : Made) → i < length names
    → (made_shown m).0 ≡ name_shown (get_or names i d) → HasContent table (name_shown (get_or names i d)) (made_shown m).1 → grown ≡ made ++ m ∷ []
    → MadeSoFar table names i made → MadeSoFar table names (i + 1) grown
one_made table names i d made grown m l named has more is = record {
  names_are =
      ap (λ cs. map (λ (c : List ℕ × Result Content Why). c.0) cs ++ map name_shown (drop (i + 1) names)) shown
      ∙ ap (λ l. l ++ map name_shown (drop (i + 1) names)) (map-append (λ (c : List ℕ × Result Content Why). c.0) (map made_shown made) (made_shown m ∷ []))
      ∙ append_assoc (map (λ (c : List ℕ × Result Content Why). c.0) (map made_shown made)) ((made_shown m).0 ∷ []) (map name_shown (drop (i + 1) names))
      ∙ ap (λ n. map (λ (c : List ℕ × Result Content Why). c.0) (map made_shown made) ++ n ∷ map name_shown (drop (i + 1) names)) named
      ∙ ap (λ l. map (λ (c : List ℕ × Result Content Why). c.0) (map made_shown made) ++ map name_shown l) (sym (drop_more names i d l))
      ∙ is.names_are;
  each = subst (All (λ (c : List ℕ × Result Content Why). HasContent table c.0 c.1)) (sym shown)
      (All-append (λ (c : List ℕ × Result Content Why). HasContent table c.0 c.1) (map made_shown made) (made_shown m ∷ []) is.each
      (All-cons (λ (c : List ℕ × Result Content Why). HasContent table c.0 c.1) (made_shown m) [] (subst (λ n. HasContent table n (made_shown m).1) (sym named) has) (All-nil (λ (c : List ℕ × Result Content Why). HasContent table c.0 c.1))));
}
  where
    shown : map made_shown grown ≡ map made_shown made ++ made_shown m ∷ []
    shown = ap (map made_shown) more ∙ map-append made_shown made (m ∷ [])

pub all_made : (table : Table) (names : List (Bor (List ℕ))) (i : ℕ) (made : List Made) → length names ≤ i → map name_shown names ≡ keys table.zonesets
    → MadeSoFar table names i made → AreContents table (map made_shown made)
all_made table names i made over are is = record {
  names = sym (append-nil _) ∙ ap (λ l. map (λ (c : List ℕ × Result Content Why). c.0) (map made_shown made) ++ map name_shown l) (sym (drop_all i names over))
      ∙ is.names_are ∙ are;
  each = is.each;
}

-- ---- what is made of a name

abbrev pub ContentLeft : List Made → ℕ → List ℕ → Type 0
ContentLeft made i text = content_in (map made_shown (drop i made)) text ≡ content_in (map made_shown made) text

module _ (made : List Made) (i : ℕ) (d : Made) (text : List ℕ) (within : i < length made) (is : ContentLeft made i text) where
  content_step : cond (bytes_eq text (get_or made i d).name.now) (made_shown (get_or made i d)).1 (content_in (map made_shown (drop (i + 1) made)) text)
      ≡ content_in (map made_shown made) text
  content_step = sym (ap (λ l. content_in (map made_shown l) text) (drop_more made i d within)) ∙ is

  pub content_found : bytes_eq text (get_or made i d).name.now ≡ true → (made_shown (get_or made i d)).1 ≡ content_in (map made_shown made) text
  content_found same =
      sym (ap (λ b. cond b (made_shown (get_or made i d)).1 (content_in (map made_shown (drop (i + 1) made)) text)) same) ∙ content_step

  pub content_more : bytes_eq text (get_or made i d).name.now ≡ false → ContentLeft made (i + 1) text
  content_more other =
      sym (ap (λ b. cond b (made_shown (get_or made i d)).1 (content_in (map made_shown (drop (i + 1) made)) text)) other) ∙ content_step

pub content_end : (made : List Made) (i : ℕ) (text : List ℕ) → length made ≤ i → ContentLeft made i text → content_in (map made_shown made) text ≡ Err Name
content_end made i text over is = sym is ∙ ap (λ l. content_in (map made_shown l) text) (drop_all i made over)

-- ---- the first cause

pub first_ever : (release : Option (List ℕ)) (table : Table) (contents : Contents) (fault : TreeFault) → AreContents table contents
    → IsFirst (tree_by release (finds_by_table table (content_in contents))) fault → IsFirstEver release table fault
first_ever release table contents (tree.Source error) are is = is
first_ever release table contents (tree.Refused text why) are is = record { contents = contents; are = are; tree = is }
first_ever release table contents tree.NoMemory are is = tt

-- what holds of a table's archive holds of the source's
pub of_table : {P : Result (List ℕ) Refused → Type 0} (Q : Result (List ℕ) Cause → Type 0) (source : List ℕ) (table : Table)
    → ((found : Result (List ℕ) Refused) → P found → Q (or_cause found)) → source_fault source ≡ None → IsTableOf table (values_of source)
    → OfTree (release_of source) table P → OfSource source Q
of_table Q source table then sound is of = record {
  sound = sound;
  table = table;
  is_table = is;
  tree = record { contents = of.contents; are = of.are; tree = then _ of.tree };
}

pub whole_tree : (source bytes : List ℕ) (table : Table) → source_fault source ≡ None → IsTableOf table (values_of source)
    → OfTree (release_of source) table (λ tree. tree ≡ Ok bytes) → IsEverTree source bytes
whole_tree source bytes table sound is of = of_table (λ tree. tree ≡ Ok bytes) source table (λ found e. ap or_cause e) sound is of

pub first_cause : (source : List ℕ) (table : Table) (fault : TreeFault) → source_fault source ≡ None → IsTableOf table (values_of source)
    → IsFirstEver (release_of source) table fault → IsEverFaultOf source fault
first_cause source table (tree.Source error) sound is first = absurd first
first_cause source table (tree.Refused text why) sound is first =
    of_table (λ tree. tree ≡ Err (of_name (refused text why))) source table (λ found e. ap or_cause e) sound is first
first_cause source table tree.NoMemory sound is first = tt

pub source_cause : (source : List ℕ) (error : SourceError) → TellsOfSource (source_fault source) error → IsEverFaultOf source (tree.Source error)
source_cause source error tells = tells

-- ---- the entries

-- whatever was made of a zone is a file
made_files : (table : Table) (contents : Contents) → All (λ (c : List ℕ × Result Content Why). HasContent table c.0 c.1) contents
    → HasFiles (content_in contents)
made_files table [] all text content h = absurd cc
made_files table (c ∷ contents) all text content h =
    by_name (bytes_eq text c.0) h (made_files table contents (λ k d l. all (suc k) d (omega (arith, l))) text content)
  where
    here : (r : Result Content Why) → HasContent table c.0 r → r ≡ Ok content → IsFile content
    here (Ok (of_file bytes)) has e = record { bytes = bytes; is = ok_same (of_file bytes) content e }
    here (Ok (of_link target)) has e = absurd has
    here (Err why) has e = absurd cc

    by_name : (b : Bool) → cond b c.1 (content_in contents text) ≡ Ok content → (content_in contents text ≡ Ok content → IsFile content)
        → IsFile content
    by_name true h more = here c.1 (all 0 c (omega arith)) h
    by_name false h more = more h

pub ever_tree : (source bytes : List ℕ) → IsEverTree source bytes → IsTree source bytes
ever_tree source bytes is =
    let content = content_in is.tree.contents in
    tree_with source bytes content (made_files is.table is.tree.contents is.tree.are.each)
    (ap (λ fault. after_source fault (tree_by (release_of source) (finds_by source content))) is.sound
    ∙ ap (λ finds. or_cause (tree_by (release_of source) finds)) (sym (finds_same is.table source content is.is_table)) ∙ is.tree.tree)
