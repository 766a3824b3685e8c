-- Rules by their names, so far and in all.
use Rattle.std.{proofs.Common.{◌≡◌, ℕ, suc, ◌+◌, ◌<◌, ◌≤◌, List, [], ◌∷◌, ◌++◌, length, get_or, drop, refl, sym, ap, ◌∙◌, append_assoc, append-nil, arith, cond}, specs.FinMap.{FinMap, get, empty, get-empty}, proofs.lemmas.List.{drop_all, drop_more}}
use Rattle.basics.specs.{Keyed.{text_cmp}, KeyedLaws.{appended}, Listed.{listed}}
use Rattle.zone_table.specs.Values.{LineValue, space, rule}
use Rattle.zone_plain.specs.ToldOffsets.{is_named, places_from, IsGrouped, with_place}

-- the map has the places of the rules so far, and those that are left make all
pub record HasGrouped (values : List LineValue) (groups : FinMap text_cmp (List ℕ)) (i : ℕ) : Type 0 where
  pub so_far : List ℕ → List ℕ
  pub each : (name : List ℕ) → get groups name ≡ listed (so_far name)
  pub goes_on : (name : List ℕ) → so_far name ++ places_from i (drop i values) name ≡ places_from 0 values name

pub nothing_grouped : (values : List LineValue) → HasGrouped values empty 0
nothing_grouped values = record { so_far = λ name. []; each = λ name. get-empty text_cmp name; goes_on = λ name. refl }

placed : (groups : FinMap text_cmp (List ℕ)) (v : LineValue) (at : ℕ) (so_far : List ℕ → List ℕ) → ((name : List ℕ) → get groups name ≡ listed (so_far name))
    → (name : List ℕ) → get (with_place groups v at) name ≡ listed (so_far name ++ cond (is_named name v) (at ∷ []) [])
placed groups (rule r) at so_far each name = appended groups so_far r.name at each name
placed groups _ at so_far each name = each name ∙ ap listed (sym (append-nil (so_far name)))

pub one_grouped : (values : List LineValue) (groups : FinMap text_cmp (List ℕ)) (i : ℕ) → i < length values → HasGrouped values groups i
    → HasGrouped values (with_place groups (get_or values i space) i) (i + 1)
unfolding places_from
one_grouped values groups i inside so_far = record {
  so_far = λ name. so_far.so_far name ++ cond (is_named name (get_or values i space)) (i ∷ []) [];
  each = placed groups (get_or values i space) i so_far.so_far so_far.each;
  goes_on = λ name.
      append_assoc (so_far.so_far name) (cond (is_named name (get_or values i space)) (i ∷ []) []) (places_from (i + 1) (drop (i + 1) values) name)
      ∙ ap (λ places. so_far.so_far name ++ places) (sym (ap (λ vs. places_from i vs name) (drop_more values i space inside) ∙ next name))
      ∙ so_far.goes_on name;
}
  where
    next : (name : List ℕ) → places_from i (get_or values i space ∷ drop (i + 1) values) name
        ≡ cond (is_named name (get_or values i space)) (i ∷ []) [] ++ places_from (i + 1) (drop (i + 1) values) name
    next name = let one : suc i ≡ i + 1 = omega arith in
        ap (λ n. cond (is_named name (get_or values i space)) (i ∷ []) [] ++ places_from n (drop (i + 1) values) name) one

pub all_grouped : (values : List LineValue) (groups : FinMap text_cmp (List ℕ)) (i : ℕ) → length values ≤ i → HasGrouped values groups i → IsGrouped values groups
unfolding places_from
all_grouped values groups i past so_far name =
    so_far.each name ∙ ap listed (sym (append-nil (so_far.so_far name))
    ∙ ap (λ vs. so_far.so_far name ++ places_from i vs name) (sym (drop_all i values past)) ∙ so_far.goes_on name)
