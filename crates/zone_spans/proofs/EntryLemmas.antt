-- The entries of a line, and one line more.
use Rattle.std.proofs.Common.{◌≡◌, ℕ, ◌+◌, ◌-◌, ◌<◌, Bool, true, false, ◌&&◌, cond, if◌then◌else◌, List, [], ◌∷◌, ◌++◌, length, get_or, map, filter, find, take, drop, reverse, Option, Some, None, option_map, ℤ, pos, int_lt, int_eq, int_cmp, is_lt, IsTrue, IfSome, refl, sym, ap, ◌∙◌, arith}
use Rattle.std.proofs.lemmas.{Grind.{common_steps}, List.{append_assoc, append-nil, drop_all, length-drop, map-append, reverse-append, take_all}, List.Elements.{All-drop, All-filter, All-take}, List.Folds.{list_all-append}}
use Rattle.std.proofs.lemmas.List.Sums.{AllPass-from_list_all, list_all-from_AllPass}
use Rattle.std.specs.{List.{list_all, position_or_len}, Option.{option_or}}
use Rattle.basics.specs.Sorted.{put_in, stable_sort}
use Rattle.zone_table.specs.LineBounds.{are_small_seconds}
use Rattle.zone_spans.specs.Bounds.{is_bounded_entry, is_bounded_firing, is_bounded_line, is_bounded_span, is_small, is_start}
use Rattle.zone_spans.specs.{Entries.{Entry, at_start, entries_from_over, entries_of_over, entry_of, fixed_span, is_sooner, next_start_over, span_of, start_entry}, Firings.{Firing, line_firings_over}, Lines.{Line, fixed_saving, is_ruled}}
use Rattle.zone_spans.specs.{Listing.{is_at, listed_firings, listed_from, start_firing}, Stands.{StandsFor}}
use Rattle.zone_spans.proofs.{BoundLemmas.{both, first, second}, FiringLemmas.{less_is}, FoundLemmas.{found_passes, from_here}, SoundLemmas.{bounded_offset, bounded_saving}}

-- the entries of what a line lists
pub listed_more : (line : Line) (es : List Entry) (start : ℤ) (fs : List Firing) (place : ℕ) → place ≡ position_or_len (is_at start) fs
    → es ++ map (entry_of line) (filter (λ f. int_lt start f.time) (take place fs)) ++ map (entry_of line) (drop place fs)
    ≡ es ++ map (entry_of line) (listed_from start fs)
unfolding listed_from
listed_more line es start fs place is =
    append_assoc es (map (entry_of line) (filter (λ f. int_lt start f.time) (take place fs))) (map (entry_of line) (drop place fs))
    ∙ ap (λ xs. es ++ xs) (sym (map-append (entry_of line) (filter (λ f. int_lt start f.time) (take place fs)) (drop place fs))
    ∙ ap (λ n. map (entry_of line) (filter (λ f. int_lt start f.time) (take n fs) ++ drop n fs)) is)

-- a list from a place to its end
pub to_end : {X : Type 0} (n : ℕ) (xs : List X) → take (length xs - n) (drop n xs) ≡ drop n xs
to_end n xs = take_all (length xs - n) (drop n xs) (omega (arith, length-drop n xs))

pub small_is : (z : ℤ) → IsTrue (are_small_seconds z) → IsTrue (is_small z)
small_is z small = grind (arith, common_steps)

bounded_entry_of : (line : Line) (f : Firing) → IsTrue (are_small_seconds line.info.offset) → IsTrue (is_bounded_firing f)
    → IsTrue (is_bounded_entry (entry_of line f))
bounded_entry_of line f offset bounded =
    both (is_small f.time) _ (first (is_small f.time) _ bounded)
    (both (is_small line.info.offset) _ (small_is line.info.offset offset)
    (small_is f.rule.time_to_add (second (is_small f.time) _ bounded)))

pub bounded_map : (line : Line) (fs : List Firing) → IsTrue (are_small_seconds line.info.offset) → IsTrue (list_all is_bounded_firing fs)
    → IsTrue (list_all is_bounded_entry (map (entry_of line) fs))
bounded_map line [] offset bounded = refl
bounded_map line (f ∷ fs) offset bounded =
    both (is_bounded_entry (entry_of line f)) _ (bounded_entry_of line f offset (first (is_bounded_firing f) _ bounded))
    (bounded_map line fs offset (second (is_bounded_firing f) _ bounded))

bounded_listed : (start : Option ℤ) (fs : List Firing) → IsTrue (list_all is_bounded_firing fs)
    → IsTrue (list_all is_bounded_firing (listed_firings start fs))
unfolding listed_from
bounded_listed None fs bounded = bounded
bounded_listed (Some start) fs bounded =
    let all = AllPass-from_list_all is_bounded_firing fs bounded in
    let P : Firing → Type 0 = λ f. is_bounded_firing f ≡ true in
    let place = position_or_len (is_at start) fs in
    let later = λ (f : Firing). int_lt start f.time in
    list_all-append is_bounded_firing (filter later (take place fs)) (drop place fs)
    ∙ both (list_all is_bounded_firing (filter later (take place fs))) _
    (list_all-from_AllPass is_bounded_firing (filter later (take place fs)) (All-filter later P (take place fs) (All-take P place fs all)))
    (list_all-from_AllPass is_bounded_firing (drop place fs) (All-drop P place fs all))

reverse_passes : {X : Type 0} (q : X → Bool) (xs : List X) → IsTrue (list_all q xs) → IsTrue (list_all q (reverse xs))
reverse_passes q [] all = refl
reverse_passes q (x ∷ xs) all =
    ap (list_all q) (reverse-append (x ∷ []) xs) ∙ list_all-append q (reverse xs) (x ∷ [])
    ∙ both (list_all q (reverse xs)) _ (reverse_passes q xs (second (q x) _ all)) (both (q x) _ (first (q x) _ all) refl)

either_passes : {X : Type 0} (q : X → Bool) (a b : Option X) → IfSome a (λ x. IsTrue (q x)) → IfSome b (λ x. IsTrue (q x))
    → IfSome (option_or a b) (λ x. IsTrue (q x))
either_passes q None b h k = k
either_passes q (Some x) b h k = h

start_passes : (b : Bool) (a : Option Firing) → IfSome a (λ f. IsTrue (is_bounded_firing f))
    → IfSome (cond b None a) (λ f. IsTrue (is_bounded_firing f))
start_passes true a h = tt
start_passes false a h = h

bounded_start : (start : ℤ) (fs : List Firing) → IsTrue (list_all is_bounded_firing fs)
    → IfSome (start_firing start fs) (λ f. IsTrue (is_bounded_firing f))
unfolding start_firing
bounded_start start fs bounded =
    start_passes _ _ (either_passes is_bounded_firing (find (λ f. int_lt f.time start) (reverse fs))
    (find (λ f. int_eq f.rule.time_to_add (pos 0)) fs)
    (found_passes (λ f. int_lt f.time start) is_bounded_firing (reverse fs) (reverse_passes is_bounded_firing fs bounded))
    (found_passes (λ f. int_eq f.rule.time_to_add (pos 0)) is_bounded_firing fs bounded))

bounded_at : (line : Line) (start : ℤ) (found : Option Firing) → IsTrue (are_small_seconds line.info.offset) → IsTrue (is_small start)
    → IfSome found (λ f. IsTrue (is_bounded_firing f)) → IsTrue
    (list_all is_bounded_entry (at_start (Some start) (option_map (span_of line) found)))
bounded_at line start None offset small bounded = refl
bounded_at line start (Some f) offset small bounded =
    both (is_bounded_entry (start, span_of line f)) _
    (both (is_small start) _ small (second (is_small f.time) _ (bounded_entry_of line f offset bounded))) refl

bounded_start_entry : (line : Line) (start : Option ℤ) (fs : List Firing) → IsTrue (are_small_seconds line.info.offset)
    → IsTrue (is_start start)
    → IsTrue (list_all is_bounded_firing fs) → IsTrue (list_all is_bounded_entry (start_entry line start fs))
bounded_start_entry line None fs offset small bounded = refl
bounded_start_entry line (Some start) fs offset small bounded = bounded_at line start (start_firing start fs) offset small
    (bounded_start start fs bounded)

pub bounded_fixed : (line : Line) → IsTrue (is_bounded_line line) → IsTrue (is_bounded_span (fixed_span line))
bounded_fixed line bounded =
    both (is_small line.info.offset) _ (small_is line.info.offset (bounded_offset line bounded))
    (small_is (fixed_saving line.info.saving) (bounded_saving line bounded))

bounded_fixed_entry : (line : Line) (start : Option ℤ) → IsTrue (is_bounded_line line) → IsTrue (is_start start)
    → IsTrue (list_all is_bounded_entry (at_start start (Some (fixed_span line))))
bounded_fixed_entry line None bounded small = refl
bounded_fixed_entry line (Some start) bounded small =
    both (is_bounded_entry (start, fixed_span line)) _ (both (is_small start) _ small (bounded_fixed line bounded)) refl

-- the entries of a ruled line, by what stands for its firings
pub ruled_entries : (most : ℕ) (line : Line) (start : Option ℤ) (fs : List Firing) → is_ruled line.info.saving ≡ true
    → StandsFor start fs (line_firings_over most line).0
    → map (entry_of line) (listed_firings start fs) ++ start_entry line start fs ≡ entries_of_over most line start
unfolding entries_of_over
ruled_entries most line start fs ruled stands =
    let due = (line_firings_over most line).0 in
    let lists : listed_firings start fs ≡ listed_firings start due =
    ap (listed_firings start) (sym (append-nil fs)) ∙ stands.lists [] ∙ ap (listed_firings start) (append-nil due) in
    let starts : start_entry line start fs ≡ start_entry line start due =
    ap (start_entry line start) (sym (append-nil fs)) ∙ stands.starts line [] ∙ ap (start_entry line start) (append-nil due) in
    (λ i. map (entry_of line) (lists i) ++ starts i)
    ∙ sym (ap (λ b. if b then map (entry_of line) (listed_firings start due) ++ start_entry line start due else at_start start (Some (fixed_span line))) ruled)

-- the entries of a bounded line are, where what stands for its firings is
pub bounded_ruled : (most : ℕ) (line : Line) (start : Option ℤ) (fs : List Firing) → IsTrue (is_bounded_line line)
    → is_ruled line.info.saving ≡ true → StandsFor start fs (line_firings_over most line).0 → IsTrue (is_start start)
    → IsTrue (list_all is_bounded_firing fs) → IsTrue (list_all is_bounded_entry (entries_of_over most line start))
bounded_ruled most line start fs numbers ruled stands small bounded =
    let offset = bounded_offset line numbers in
    ap (list_all is_bounded_entry) (sym (ruled_entries most line start fs ruled stands))
    ∙ list_all-append is_bounded_entry (map (entry_of line) (listed_firings start fs)) (start_entry line start fs)
    ∙ both (list_all is_bounded_entry (map (entry_of line) (listed_firings start fs))) _
    (bounded_map line (listed_firings start fs) offset (bounded_listed start fs bounded))
    (bounded_start_entry line start fs offset small bounded)

pub bounded_unruled : (most : ℕ) (line : Line) (start : Option ℤ) → IsTrue (is_bounded_line line) → is_ruled line.info.saving ≡ false
    → IsTrue (is_start start) → IsTrue (list_all is_bounded_entry (entries_of_over most line start))
unfolding entries_of_over
bounded_unruled most line start bounded unruled small =
    let fs = (line_firings_over most line).0 in
    ap (λ b. list_all is_bounded_entry
    (if b then map (entry_of line) (listed_firings start fs) ++ start_entry line start fs
    else at_start start (Some (fixed_span line)))) unruled
    ∙ bounded_fixed_entry line start bounded small

-- one line more
pub entries_more : (most : ℕ) (es es' : List Entry) (start start' : Option ℤ) (lines : List Line) (i : ℕ) (line : Line) (all : List Entry)
    → i < length lines
    → line ≡ get_or lines i line → es ++ entries_from_over most start (drop i lines) ≡ all → es' ≡ es ++ entries_of_over most line start
    → start' ≡ next_start_over most line
    → es' ++ entries_from_over most start' (drop (i + 1) lines) ≡ all
unfolding entries_from_over
entries_more most es es' start start' lines i line all l is before pushed next =
    let here = from_here lines i line l is in
    let from = entries_from_over most in
    (λ k. pushed k ++ from (next k) (drop (i + 1) lines))
    ∙ append_assoc es (entries_of_over most line start) (from (next_start_over most line) (drop (i + 1) lines))
    ∙ ap (λ ls. es ++ from start ls) (sym here) ∙ before

pub entries_done : (most : ℕ) (es : List Entry) (start : Option ℤ) (lines : List Line) (all : List Entry)
    → es ++ entries_from_over most start (drop (length lines) lines) ≡ all → es ≡ all
unfolding entries_from_over
entries_done most es start lines all before =
    let done : drop (length lines) lines ≡ [] = drop_all (length lines) lines (omega arith) in
    sym (append-nil es) ∙ ap (λ ls. es ++ entries_from_over most start ls) (sym done) ∙ before

-- std's order by a key is the order of times
pub sooner_is : (a b : Entry) → is_lt (int_cmp a.0 b.0) ≡ is_sooner a b
sooner_is a b = less_is a.0 b.0

and_turned : (a b c : Bool) → (a && (b && c)) ≡ (b && (a && c))
and_turned true true c = refl
and_turned true false c = refl
and_turned false true c = refl
and_turned false false c = refl

put_passes : {X : Type 0} (lt : X → X → Bool) (p : X → Bool) (x : X) (ys : List X) → list_all p (put_in lt x ys) ≡ (p x && list_all p ys)
put_passes lt p x [] = refl
put_passes lt p x (y ∷ ys) =
    elim (lt y x) as (λ b. list_all p (cond b (y ∷ put_in lt x ys) (x ∷ y ∷ ys)) ≡ (p x && (p y && list_all p ys))) [
      | true ↦ ap (λ b. p y && b) (put_passes lt p x ys) ∙ and_turned (p y) (p x) (list_all p ys)
      | false ↦ refl
    ]

-- what passes at each still does in order
pub sorted_passes : {X : Type 0} (lt : X → X → Bool) (p : X → Bool) (xs : List X) → list_all p (stable_sort lt xs) ≡ list_all p xs
sorted_passes lt p [] = refl
sorted_passes lt p (x ∷ xs) = put_passes lt p x (stable_sort lt xs) ∙ ap (λ b. p x && b) (sorted_passes lt p xs)
