-- Of the firings before a line's start only the last one matters.
use Rattle.std.proofs.Common.{◌≡◌, ℕ, suc, ◌+◌, Bool, true, false, not, cond, if◌then◌else◌, List, [], ◌∷◌, ◌++◌, length, nat_lt, filter, find, take, drop, reverse, Option, Some, None, option_map, ℤ, pos, int_lt, int_eq, IsTrue, refl, sym, ap, ◌∙◌, arith, append_assoc}
use Rattle.std.proofs.{Math.Dec.{leb-suc-suc}, lemmas.Int.{ints}, lemmas.List.{reverse-append}, lemmas.List.Folds.{find-append}}
use Rattle.std.specs.{List.{last_or, list_all, position_or_len}, Option.{option_or, option_to_list}}
use Rattle.zone_spans.specs.{Entries.{at_start, span_of, start_entry}, Firings.{Firing}, Listing.{is_at, listed_firings, listed_from, start_firing}, Stands.{StandsFor}}
use Rattle.zone_spans.proofs.{BoundLemmas.{both, first, second}, FiringLemmas.{int_lt_one_way}}

not_equal : (a b : ℤ) → int_lt a b ≡ true → int_eq a b ≡ false
not_equal a b h = grind (arith, ints)

-- a firing below the start is not the one at it
later_place : (start : ℤ) (f : Firing) (fs : List Firing) → IsTrue (int_lt f.time start)
    → position_or_len (is_at start) (f ∷ fs) ≡ suc (position_or_len (is_at start) fs)
later_place start f fs below =
    ap (λ b. cond (not b) (1 + position_or_len (is_at start) fs) 0) (not_equal f.time start below) ∙ omega arith

-- so it is not listed_firings
listed_behind : (start : ℤ) (f : Firing) (fs : List Firing) → IsTrue (int_lt f.time start)
    → listed_from start (f ∷ fs) ≡ listed_from start fs
unfolding listed_from
listed_behind start f fs below =
    let place = position_or_len (is_at start) fs in
    let above = filter (λ g. int_lt start g.time) (take place fs) in
    ap (λ n. filter (λ g. int_lt start g.time) (take n (f ∷ fs)) ++ drop n (f ∷ fs)) (later_place start f fs below)
    ∙ ap (λ b. cond b (f ∷ above) above ++ drop place fs) (int_lt_one_way f.time start below)

later_than : (a b : ℕ) → nat_lt (suc a) (suc b) ≡ nat_lt a b
later_than a b = leb-suc-suc (suc a) b

found_stays : {X : Type 0} (a : Option X) (x : X) (b c d : Option X)
    → option_or (option_or (option_or a (Some x)) b) c ≡ option_or (option_or a (Some x)) d
found_stays None x b c d = refl
found_stays (Some y) x b c d = refl

-- what is found from the end on is found before a further item
found_behind : {X : Type 0} (p : X → Bool) (x y : X) (ys : List X) → p y ≡ true → (c d : Option X)
    → option_or (find p (reverse (x ∷ y ∷ ys))) c ≡ option_or (find p (reverse (y ∷ ys))) d
found_behind p x y ys passes c d =
    let front = find p (reverse ys) in
    let here : find p (reverse (y ∷ ys)) ≡ option_or front (Some y) =
    ap (find p) (reverse-append (y ∷ []) ys) ∙ find-append p (reverse ys) (y ∷ [])
    ∙ ap (λ b. option_or front (cond b (Some y) None)) passes in
    let all : find p (reverse (x ∷ y ∷ ys)) ≡ option_or (option_or front (Some y)) (find p (x ∷ [])) =
    ap (find p) (reverse-append (x ∷ []) (y ∷ ys)) ∙ find-append p (reverse (y ∷ ys)) (x ∷ [])
    ∙ ap (λ o. option_or o (find p (x ∷ []))) here in
    ap (λ o. option_or o c) all ∙ found_stays front y (find p (x ∷ [])) c d ∙ ap (λ o. option_or o d) (sym here)

-- the start takes the firing behind it
start_behind : (start : ℤ) (f g : Firing) (fs : List Firing) → IsTrue (int_lt f.time start) → IsTrue (int_lt g.time start)
    → start_firing start (f ∷ g ∷ fs) ≡ start_firing start (g ∷ fs)
unfolding start_firing
start_behind start f g fs below here =
    let more = g ∷ fs in
    let test = λ (h : Firing). int_lt h.time start in
    let standard = λ (h : Firing). int_eq h.rule.time_to_add (pos 0) in
    let place = position_or_len (is_at start) more in
    let is_there : nat_lt (position_or_len (is_at start) (f ∷ more)) (suc (length more)) ≡ nat_lt place (length more) =
    ap (λ n. nat_lt n (suc (length more))) (later_place start f more below) ∙ later_than place (length more) in
    (λ i. if is_there i then None else option_or (find test (reverse (f ∷ more))) (find standard (f ∷ more)))
    ∙ ap (λ (o : Option Firing). if nat_lt place (length more) then None else o)
    (found_behind test f g fs here (find standard (f ∷ more)) (find standard more))

pub stands_same : (start : Option ℤ) (fs : List Firing) → StandsFor start fs fs
stands_same start fs = record {
  lists = λ more. refl;
  starts = λ line more. refl;
}

-- the same firings behind both
pub stands_more : (start : Option ℤ) (fired due more : List Firing) → StandsFor start fired due → StandsFor start (fired ++ more) (due ++ more)
stands_more start fired due more stands = record {
  lists = λ later. ap (listed_firings start) (append_assoc fired more later) ∙ stands.lists (more ++ later)
      ∙ ap (listed_firings start) (sym (append_assoc due more later));
  starts = λ line later. ap (start_entry line start) (append_assoc fired more later) ∙ stands.starts line (more ++ later)
      ∙ ap (start_entry line start) (sym (append_assoc due more later));
}

-- the last of firings below the start stands for all of them
pub last_stands : (start : ℤ) (before : Option Firing) (fs : List Firing) → IsTrue (list_all (λ f. int_lt f.time start) (option_to_list before))
    → IsTrue (list_all (λ f. int_lt f.time start) fs)
    → StandsFor (Some start) (option_to_list (last_or before fs)) (option_to_list before ++ fs)
last_stands start None [] below all = stands_same (Some start) []
last_stands start (Some f) [] below all = stands_same (Some start) (f ∷ [])
last_stands start None (g ∷ fs) below all =
    last_stands start (Some g) fs (both (int_lt g.time start) _ (first (int_lt g.time start) _ all) refl) (second (int_lt g.time start) _ all)
last_stands start (Some f) (g ∷ fs) below all =
    let here = first (int_lt g.time start) _ all in
    let behind = last_stands start (Some g) fs (both (int_lt g.time start) _ here refl) (second (int_lt g.time start) _ all) in
    let first_one = first (int_lt f.time start) _ below in
    record {
      lists = λ more. behind.lists more ∙ sym (listed_behind start f (g ∷ (fs ++ more)) first_one);
      starts = λ line more. behind.starts line more
          ∙ ap (λ (o : Option Firing). at_start (Some start) (option_map (span_of line) o)) (sym (start_behind start f g (fs ++ more) first_one here));
    }
