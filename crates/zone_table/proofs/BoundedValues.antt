-- A table of values that are bounded is bounded.
use Rattle.std.proofs.{Common.{◌≡◌, ℕ, Bool, true, false, cond, List, [], ◌∷◌, ◌++◌, Option, reverse, refl, sym, ap, ◌∙◌, subst}, lemmas.List.{reverse-append}, lemmas.List.Folds.{list_all-append}, lemmas.List.Sums.{list_all-from_AllPass}}
use Rattle.std.proofs.lemmas.Bool.{and_from, and_parts}
use Rattle.std.specs.{Prelude.{IsTrue, IfSome}, List.{list_all, AllPass}}
use Rattle.basics.specs.Listed.{listed}
use Rattle.zone_table.{specs.{LineBounds.{is_bounded_line}, Values.{LineValue, space, zone, continuation, rule, link}, BoundedTables.{IsBoundedTable}, Bounds.{is_bounded_rule, is_bounded_info}, Joined.{rules_of, zone_of}, Tables.{IsTableOfLatest, IsTableOf}, declared.table.Table.{Table}}, proofs.OwnedBounds.{owned_info-bounded}}

-- a list passes with an item at its end that may be left out
more_pass : {X : Type 0} (test : X → Bool) (xs : List X) (here : Bool) (x : X)
    → list_all test xs ≡ true → test x ≡ true → list_all test (xs ++ cond here (x ∷ []) []) ≡ true
more_pass test xs true x passes last = list_all-append test xs (x ∷ []) ∙ and_from _ _ passes (and_from _ _ last refl)
more_pass test xs false x passes last = list_all-append test xs [] ∙ and_from _ _ passes refl

reverse_passes : {X : Type 0} (test : X → Bool) (xs : List X) → list_all test xs ≡ true → list_all test (reverse xs) ≡ true
reverse_passes test [] passes = refl
reverse_passes test (x ∷ xs) passes =
    let parts = and_parts (test x) (list_all test xs) passes in
    ap (list_all test) (reverse-append (x ∷ []) xs) ∙ more_pass test (reverse xs) true x (reverse_passes test xs parts.1) parts.0

-- the first of bounded values is bounded, and so are the rest
parts_of : (value : LineValue) (before : List LineValue) → list_all is_bounded_line (value ∷ before) ≡ true
    → (is_bounded_line value ≡ true) × (list_all is_bounded_line before ≡ true)
parts_of value before passes = and_parts (is_bounded_line value) (list_all is_bounded_line before) passes

rules_pass : (latest : List LineValue) → list_all is_bounded_line latest ≡ true → (name : List ℕ)
    → list_all is_bounded_rule (rules_of latest name) ≡ true
rules_pass [] passes name = refl
rules_pass (rule r ∷ before) passes name =
    let parts = parts_of (rule r) before passes in
    more_pass is_bounded_rule (rules_of before name) _ _ (rules_pass before parts.1 name) parts.0
rules_pass (space ∷ before) passes name = rules_pass before (parts_of space before passes).1 name
rules_pass (zone zone_name info ∷ before) passes name = rules_pass before (parts_of (zone zone_name info) before passes).1 name
rules_pass (continuation info ∷ before) passes name = rules_pass before (parts_of (continuation info) before passes).1 name
rules_pass (link existing new_name ∷ before) passes name = rules_pass before (parts_of (link existing new_name) before passes).1 name

lines_pass : (latest : List LineValue) → list_all is_bounded_line latest ≡ true → (name : List ℕ)
    → list_all is_bounded_info (zone_of latest name) ≡ true
lines_pass [] passes name = refl
lines_pass (zone zone_name info ∷ before) passes name =
    let parts = parts_of (zone zone_name info) before passes in
    more_pass is_bounded_info (zone_of before name) _ _ (lines_pass before parts.1 name) (owned_info-bounded info parts.0)
lines_pass (continuation info ∷ before) passes name =
    let parts = parts_of (continuation info) before passes in
    more_pass is_bounded_info (zone_of before name) _ _ (lines_pass before parts.1 name) (owned_info-bounded info parts.0)
lines_pass (space ∷ before) passes name = lines_pass before (parts_of space before passes).1 name
lines_pass (rule r ∷ before) passes name = lines_pass before (parts_of (rule r) before passes).1 name
lines_pass (link existing new_name ∷ before) passes name = lines_pass before (parts_of (link existing new_name) before passes).1 name

listed_passes : {X : Type 0} (test : X → Bool) (xs : List X) → IsTrue (list_all test xs)
    → IfSome (listed xs) (λ ys. IsTrue (list_all test ys))
listed_passes test [] passes = tt
listed_passes test (x ∷ xs) passes = passes

-- what a map has of a list that passes
found_passes : {X : Type 0} (test : X → Bool) (xs : List X) (found : Option (List X)) → found ≡ listed xs → IsTrue (list_all test xs)
    → IfSome found (λ ys. IsTrue (list_all test ys))
found_passes test xs found is passes =
    subst (λ found. IfSome found (λ ys. IsTrue (list_all test ys))) (sym is) (listed_passes test xs passes)

bounded_latest : (table : Table) (latest : List LineValue) → IsTableOfLatest table latest → IsTrue (list_all is_bounded_line latest)
    → IsBoundedTable table
bounded_latest table latest is passes = record {
  rules = λ name. found_passes is_bounded_rule (rules_of latest name) _ (is.rulesets name) (rules_pass latest passes name);
  zones = λ name. found_passes is_bounded_info (zone_of latest name) _ (is.zonesets name) (lines_pass latest passes name);
}

pub bounded_values : (table : Table) (values : List LineValue) → IsTableOf table values → AllPass is_bounded_line values
    → IsBoundedTable table
bounded_values table values is bounded =
    bounded_latest table (reverse values) is
    (reverse_passes is_bounded_line values (list_all-from_AllPass is_bounded_line values bounded))
