-- The entries of names, one after another.
use Rattle.std.proofs.{Common.{◌≡◌, ℕ, ◌+◌, ◌<◌, ◌≤◌, List, [], ◌∷◌, ◌++◌, map, length, get_or, drop, drop-cons, Option, Some, None, MatchOption, Result, Ok, Err, refl, sym, ap, ◌∙◌, subst, append_assoc, append-nil, arith}, lemmas.List.{drop_all}}
use Rattle.std.proofs.lemmas.Grind.{flat_map-append}
use Rattle.std.specs.{Borrow.{Bor}, List.{flat_map}}
use Rattle.tz_lookup.specs.{Databases.{name_shown}, Compiles.{compiled_in}}
use Rattle.zone_tree.specs.{Archives.{archive, end_bytes, entry_bytes}, ArchiveEntries.{EntryValue}, Contents.{zone_content}, Entries.{version_name, entry_of, release_entry}, Names.{Finds, finds_by, finds_in, finds_in_table, archive_names}}
use Rattle.zone_tree.specs.{Told.{IsPut, ArePut, IsFirst, IsFaultOf}, Trees.{Refused, refused, onto, entries_of, first_entries, before, joined, archive_of, tree_by, Cause, of_source, or_cause, after_source, tree_of}, declared.refusal.TreeFault.{TreeFault}}
use Rattle.zone_tree.specs.declared.refusal.Why.{Why}
use Rattle.zone_tree.proofs.NameLemmas.{content_same, finds_same}
use Rattle.zone_tree.specs.declared.refusal.TreeFault.TheVariants as tree
use Rattle.zone_source.specs.{Releases.{release_of}, Faults.{SourceFault, source_fault}, Told.{TellsOfSource, told_by_source}, Zones.{values_of}, declared.error.SourceError.{SourceError}}
use Rattle.zone_source.specs.declared.error.SourceError.TheVariants as source_error
use Rattle.zone_table.specs.{Tables.{IsTableOf}, declared.table.Table.{Table}}

before_none : (r : Result (List EntryValue) Refused) → before [] r ≡ r
before_none (Ok fs) = refl
before_none (Err first) = refl

before_one : (es : List EntryValue) (e : EntryValue) (name : List ℕ) (r : Result (List EntryValue) Refused)
    → before es (onto name (Ok e) r) ≡ before (es ++ e ∷ []) r
before_one es e name (Ok fs) = ap Ok (sym (append_assoc es (e ∷ []) fs))
before_one es e name (Err first) = refl

-- the entries of the names before these were put at the end, and these give the rest
pub record HasPut (entry : List ℕ → Result EntryValue Why) (all left : List (List ℕ)) (old now : List ℕ) : Type 0 where
  pub entries : List EntryValue
  pub bytes : now ≡ old ++ flat_map entry_bytes entries
  pub goes_on : before entries (entries_of entry left) ≡ entries_of entry all

pub nothing_put : (entry : List ℕ → Result EntryValue Why) (all : List (List ℕ)) (old : List ℕ) → HasPut entry all all old old
nothing_put entry all old = record { entries = []; bytes = sym (append-nil old); goes_on = before_none _ }

pub one_put : (entry : List ℕ → Result EntryValue Why) (all left : List (List ℕ)) (name old now new : List ℕ)
    → HasPut entry all (name ∷ left) old now → IsPut now new (entry name) → HasPut entry all left old new
unfolding entries_of
one_put entry all left name old now new so_far put = record {
  entries = so_far.entries ++ put.entry ∷ [];
  bytes = put.bytes ∙ ap (λ l. l ++ entry_bytes put.entry) so_far.bytes
      ∙ append_assoc old (flat_map entry_bytes so_far.entries) (entry_bytes put.entry)
      ∙ ap (λ l. old ++ (flat_map entry_bytes so_far.entries ++ l)) (sym (append-nil (entry_bytes put.entry)))
      ∙ ap (λ l. old ++ l) (sym (flat_map-append entry_bytes so_far.entries (put.entry ∷ [])));
  goes_on = sym (before_one so_far.entries put.entry name (entries_of entry left))
      ∙ ap (λ r. before so_far.entries (onto name r (entries_of entry left))) (sym put.is_found) ∙ so_far.goes_on;
}

pub refused_here : (entry : List ℕ → Result EntryValue Why) (all left : List (List ℕ)) (name old now : List ℕ) (why : Why)
    → HasPut entry all (name ∷ left) old now → entry name ≡ Err why → entries_of entry all ≡ Err (refused name why)
unfolding entries_of
refused_here entry all left name old now why so_far e =
    sym so_far.goes_on ∙ ap (λ r. before so_far.entries (onto name r (entries_of entry left))) e

pub all_put : (entry : List ℕ → Result EntryValue Why) (all : List (List ℕ)) (old now : List ℕ) → HasPut entry all [] old now
    → ArePut old now (entries_of entry all)
unfolding entries_of
all_put entry all old now so_far = record {
  entries = so_far.entries;
  are_found = sym so_far.goes_on ∙ ap Ok (append-nil so_far.entries);
  bytes = so_far.bytes;
}

-- ---- the same over the texts of names, by a place among them

left_at : (names : List (Bor (List ℕ))) (i : ℕ) (d : Bor (List ℕ)) → i < length names
    → map name_shown (drop i names) ≡ (get_or names i d).now ∷ map name_shown (drop (i + 1) names)
left_at names i d inside = ap (map name_shown) (step names i d inside)
  where
    step : (names : List (Bor (List ℕ))) (i : ℕ) (d : Bor (List ℕ)) → i < length names → drop i names ≡ get_or names i d ∷ drop (i + 1) names
    step names i d inside = grind (arith, drop-cons)

pub one_step : (entry : List ℕ → Result EntryValue Why) (all : List (List ℕ)) (names : List (Bor (List ℕ))) (i : ℕ) (d : Bor (List ℕ))
    (old now new : List ℕ) → i < length names → HasPut entry all (map name_shown (drop i names)) old now
    → IsPut now new (entry (get_or names i d).now) → HasPut entry all (map name_shown (drop (i + 1) names)) old new
one_step entry all names i d old now new inside so_far put =
    one_put entry all (map name_shown (drop (i + 1) names)) (get_or names i d).now old now new
    (subst (λ left. HasPut entry all left old now) (left_at names i d inside) so_far) put

pub first_step : (entry : List ℕ → Result EntryValue Why) (all : List (List ℕ)) (names : List (Bor (List ℕ))) (i : ℕ) (d : Bor (List ℕ))
    (old now text : List ℕ) (why : Why) → i < length names → HasPut entry all (map name_shown (drop i names)) old now
    → entry (get_or names i d).now ≡ Err why → text ≡ (get_or names i d).now → entries_of entry all ≡ Err (refused text why)
first_step entry all names i d old now text why inside so_far met same =
    refused_here entry all (map name_shown (drop (i + 1) names)) (get_or names i d).now old now why
    (subst (λ left. HasPut entry all left old now) (left_at names i d inside) so_far) met
    ∙ ap (λ t. Err (refused t why)) (sym same)

pub all_steps : (entry : List ℕ → Result EntryValue Why) (all : List (List ℕ)) (names : List (Bor (List ℕ))) (i : ℕ) (old now : List ℕ)
    → length names ≤ i → HasPut entry all (map name_shown (drop i names)) old now → ArePut old now (entries_of entry all)
all_steps entry all names i old now past so_far =
    all_put entry all old now (subst (λ left. HasPut entry all (map name_shown left) old now) (drop_all i names past) so_far)

-- ---- what comes first

none_at : (old : List ℕ) → ArePut old old (first_entries None)
none_at old = record { entries = []; are_found = refl; bytes = sym (append-nil old) }

pub none_first : (release : Option (List ℕ)) (old : List ℕ) → None ≡ release → ArePut old old (first_entries release)
none_first release old none = subst (λ r. ArePut old old (first_entries r)) none (none_at old)

pub one_first : (release old new : List ℕ) → IsPut old new (release_entry release) → ArePut old new (first_entries (Some release))
one_first release old new put = record {
  entries = put.entry ∷ [];
  are_found = ap (λ r. onto version_name r (Ok [])) put.is_found;
  bytes = put.bytes ∙ ap (λ l. old ++ l) (sym (append-nil (entry_bytes put.entry)));
}

pub refused_first : (release text : List ℕ) (why : Why) → release_entry release ≡ Err why → text ≡ version_name
    → first_entries (Some release) ≡ Err (refused text why)
refused_first release text why met same = ap (λ r. onto version_name r (Ok [])) met ∙ ap (λ t. Err (refused t why)) (sym same)

both_put : (old mid now : List ℕ) (firsts others : Result (List EntryValue) Refused) → ArePut old mid firsts → ArePut mid now others
    → ArePut old now (joined firsts others)
both_put old mid now firsts others first other = record {
  entries = first.entries ++ other.entries;
  are_found = ap (λ r. joined r others) first.are_found ∙ ap (before first.entries) other.are_found;
  bytes = other.bytes ∙ ap (λ l. l ++ flat_map entry_bytes other.entries) first.bytes
      ∙ append_assoc old (flat_map entry_bytes first.entries) (flat_map entry_bytes other.entries)
      ∙ ap (λ l. old ++ l) (sym (flat_map-append entry_bytes first.entries other.entries));
}

-- ---- the archive of a table

pub tree_put : (release : Option (List ℕ)) (finds : Finds) (ordered : List (List ℕ)) (old mid now whole : List ℕ) → ordered ≡ archive_names finds
    → ArePut old mid (first_entries release) → ArePut mid now (entries_of (entry_of finds) ordered) → old ≡ [] → whole ≡ now ++ end_bytes
    → tree_by release finds ≡ Ok whole
unfolding tree_by archive
tree_put release finds ordered old mid now whole names first others empty ended =
    let put = both_put old mid now (first_entries release) (entries_of (entry_of finds) ordered) first others in
    ap (λ names. archive_of (joined (first_entries release) (entries_of (entry_of finds) names))) (sym names) ∙ ap archive_of put.are_found
    ∙ ap Ok (sym (ended ∙ ap (λ l. l ++ end_bytes) (put.bytes ∙ ap (λ l. l ++ flat_map entry_bytes put.entries) empty)))

pub first_kept : (release : Option (List ℕ)) (finds : Finds) (ordered : List (List ℕ)) (old mid : List ℕ) (fault : TreeFault) → ordered ≡ archive_names finds
    → ArePut old mid (first_entries release) → IsFirst (entries_of (entry_of finds) ordered) fault → IsFirst (tree_by release finds) fault
unfolding tree_by
first_kept release finds ordered old mid (tree.Source error) names put first = absurd first
first_kept release finds ordered old mid (tree.Refused text why) names put first =
    ap (λ names. archive_of (joined (first_entries release) (entries_of (entry_of finds) names))) (sym names)
    ∙ ap (λ r. archive_of (joined r (entries_of (entry_of finds) ordered))) put.are_found ∙ ap (λ r. archive_of (before put.entries r)) first
first_kept release finds ordered old mid tree.NoMemory names put first = tt

pub front_kept : (release : Option (List ℕ)) (finds : Finds) (fault : TreeFault) → IsFirst (first_entries release) fault
    → IsFirst (tree_by release finds) fault
unfolding tree_by
front_kept release finds (tree.Source error) first = absurd first
front_kept release finds (tree.Refused text why) first =
    ap (λ r. archive_of (joined r (entries_of (entry_of finds) (archive_names finds)))) first
front_kept release finds tree.NoMemory first = tt

-- ---- the archive of a source

pub tree_is : (table : Table) (source : List ℕ) → source_fault source ≡ None → IsTableOf table (values_of source)
    → tree_of source ≡ or_cause (tree_by (release_of source) (finds_in_table table))
unfolding tree_of
tree_is table source sound is =
    ap (λ fault. after_source fault (tree_by (release_of source) (finds_in source))) sound
    ∙ ap (λ finds. or_cause (tree_by (release_of source) finds))
    (sym (finds_same table source (λ name. zone_content name (compiled_in table name)) is ∙ ap (finds_by source) (content_same table source is)))

pub first_told : (found : Result (List ℕ) Refused) (whole : Result (List ℕ) Cause) (fault : TreeFault) → whole ≡ or_cause found → IsFirst found fault
    → IsFaultOf whole fault
first_told found whole (tree.Source error) is first = absurd first
first_told found whole (tree.Refused text why) is first = is ∙ ap or_cause first
first_told found whole tree.NoMemory is first = tt

source_met : (source : List ℕ) (fault : SourceFault) → source_fault source ≡ Some fault → tree_of source ≡ Err (of_source fault)
unfolding tree_of
source_met source fault is = ap (λ o. after_source o (tree_by (release_of source) (finds_in source))) is

pub source_told : (source : List ℕ) (error : SourceError) → TellsOfSource (source_fault source) error → IsFaultOf (tree_of source) (tree.Source error)
source_told source error tells = by_told (told_by_source error) tells
  where
    by_told : (told : Option SourceFault) → MatchOption told (error ≡ source_error.NoMemory) (λ fault. source_fault source ≡ Some fault)
        → MatchOption told (error ≡ source_error.NoMemory) (λ fault. tree_of source ≡ Err (of_source fault))
    by_told None is = is
    by_told (Some fault) is = source_met source fault is
