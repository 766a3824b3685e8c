-- The names of a table are those of its source, and find the same.
use Rattle.std.proofs.{Common.{◌≡◌, ℕ, Bool, true, false, List, [], ◌∷◌, ◌++◌, reverse, cond, option_map, Some, Result, refl, sym, ap, ◌∙◌, append-nil}, lemmas.Cmp.{nat_list_cmp_total}, lemmas.List.Folds.{list_any-append}, lemmas.Bool.{or_right, or_left}}
use Rattle.std.specs.{Prelude.{◌||◌, is_some, bytes_eq}, Cmp.{both_ways}, FinMap.{FinMap, get, keys, contains_key-keys, IsAntisymmetric, slice_cmp-IsAntisymmetric, nat_cmp-IsAntisymmetric}, List.{list_any, flat_map}, Ordering.{eq_by_cmp}}
use Rattle.basics.specs.{InOrder.{in_order}, InOrderLaws.{any-in_order, rises-keys, rises_from_sorted, same_rising, sorted_in_order}, Keyed.{text_cmp}, KeyedLaws.{tied_texts}, Listed.{listed}}
use Rattle.tz_lookup.specs.Compiles.{compiled_in}
use Rattle.zone_source.specs.Zones.{rules_in, values_of, zone_in}
use Rattle.zone_tree.specs.{ArchiveEntries.{Content}, Contents.{zone_content}, Names.{zone_names, link_names, names_by, finds_by, finds_by_table, found_in}, declared.refusal.Why.{Why}}
use Rattle.zone_spans.specs.Compiled.{compiled}
use Rattle.zone_table.specs.{Joined.{zone_of, link_of, is_owner}, Owned.{owned_info}, Resolved.{resolved_in-IsTableOf}, Tables.{IsTableOf}, declared.table.Table.{Table}, declared.zone.ZoneInfo.{ZoneInfo}, Values.{LineValue, space, zone, continuation, rule, link}}

pub text_same : IsAntisymmetric text_cmp
text_same = slice_cmp-IsAntisymmetric nat_cmp-IsAntisymmetric

-- names in order that find what a map has are its keys
pub keys_are : {X : Type 0} (m : FinMap text_cmp X) (names : List (List ℕ))
    → ((q : List ℕ) → list_any (eq_by_cmp text_cmp q) names ≡ is_some (get m q)) → keys m ≡ in_order text_cmp names
keys_are m names alike =
    same_rising nat_list_cmp_total text_same (keys m) (in_order text_cmp names) (rises-keys m)
    (rises_from_sorted text_cmp _ (sorted_in_order nat_list_cmp_total names))
    (λ q. sym (contains_key-keys m q) ∙ sym (alike q) ∙ sym (any-in_order text_same (eq_by_cmp text_cmp q) names))

-- ---- a name is a zone's own exactly where a line gives it to one

named : (value : LineValue) (latest : List LineValue) (q : List ℕ) → list_any (eq_by_cmp text_cmp q) (flat_map zone_names latest) ≡ true
    → list_any (eq_by_cmp text_cmp q) (flat_map zone_names (value ∷ latest)) ≡ true
named value latest q h = list_any-append (eq_by_cmp text_cmp q) (zone_names value) (flat_map zone_names latest) ∙ or_right _ _ h

-- the owner's name is a line's
owner_named : (latest : List LineValue) (q : List ℕ) → is_owner latest q ≡ true → list_any (eq_by_cmp text_cmp q) (flat_map zone_names latest) ≡ true
owner_named [] q h = absurd (cc)
owner_named (space ∷ before) q h = owner_named before q h
owner_named (continuation info ∷ before) q h = owner_named before q h
owner_named (zone name info ∷ before) q h = or_left _ _ (tied_texts q name ∙ h)
owner_named (rule r ∷ before) q h = absurd (cc)
owner_named (link existing name ∷ before) q h = absurd (cc)

some_listed : (b : Bool) (before : List ZoneInfo) (x : ZoneInfo) → b ≡ false → is_some (listed (before ++ cond b (x ∷ []) [])) ≡ true
    → is_some (listed before) ≡ true
some_listed b before x e h = ap (λ l. is_some (listed l)) (sym (append-nil before) ∙ ap (λ c. before ++ cond c (x ∷ []) []) (sym e)) ∙ h

zone_named : (latest : List LineValue) (q : List ℕ) → is_some (listed (zone_of latest q)) ≡ true
    → list_any (eq_by_cmp text_cmp q) (flat_map zone_names latest) ≡ true
zone_named [] q h = absurd (cc)
zone_named (space ∷ before) q h = zone_named before q h
zone_named (rule r ∷ before) q h = zone_named before q h
zone_named (link existing name ∷ before) q h = zone_named before q h
zone_named (zone name info ∷ before) q h = by_name (bytes_eq name q) refl (zone_named before q)
  where
    by_name : (b : Bool) → bytes_eq name q ≡ b
        → (is_some (listed (zone_of before q)) ≡ true → list_any (eq_by_cmp text_cmp q) (flat_map zone_names before) ≡ true)
        → list_any (eq_by_cmp text_cmp q) (flat_map zone_names (zone name info ∷ before)) ≡ true
    by_name true e more = or_left _ _ (tied_texts q name ∙ e)
    by_name false e more = named (zone name info) before q (more (some_listed (bytes_eq name q) (zone_of before q) _ e h))
zone_named (continuation info ∷ before) q h = by_owner (is_owner before q) refl (zone_named before q)
  where
    by_owner : (b : Bool) → is_owner before q ≡ b
        → (is_some (listed (zone_of before q)) ≡ true → list_any (eq_by_cmp text_cmp q) (flat_map zone_names before) ≡ true)
        → list_any (eq_by_cmp text_cmp q) (flat_map zone_names before) ≡ true
    by_owner true e more = owner_named before q e
    by_owner false e more = more (some_listed (is_owner before q) (zone_of before q) _ e h)

some_more : (xs ys : List ZoneInfo) → is_some (listed xs) ≡ true → is_some (listed (xs ++ ys)) ≡ true
some_more [] ys h = absurd cc
some_more (x ∷ xs) ys h = refl

some_last : (xs : List ZoneInfo) (x : ZoneInfo) → is_some (listed (xs ++ x ∷ [])) ≡ true
some_last [] x = refl
some_last (y ∷ xs) x = refl

given_owned : (latest : List LineValue) (q : List ℕ) → list_any (eq_by_cmp text_cmp q) (flat_map zone_names latest) ≡ true
    → is_some (listed (zone_of latest q)) ≡ true
given_owned [] q h = absurd cc
given_owned (space ∷ before) q h = given_owned before q h
given_owned (rule r ∷ before) q h = given_owned before q h
given_owned (link existing name ∷ before) q h = given_owned before q h
given_owned (continuation info ∷ before) q h = some_more (zone_of before q) _ (given_owned before q h)
given_owned (zone name info ∷ before) q h = by_name (eq_by_cmp text_cmp q name) refl h (given_owned before q)
  where
    by_name : (b : Bool) → eq_by_cmp text_cmp q name ≡ b → (b || list_any (eq_by_cmp text_cmp q) (flat_map zone_names before)) ≡ true
        → (list_any (eq_by_cmp text_cmp q) (flat_map zone_names before) ≡ true → is_some (listed (zone_of before q)) ≡ true)
        → is_some (listed (zone_of (zone name info ∷ before) q)) ≡ true
    by_name true e h more =
        ap (λ b. is_some (listed (zone_of before q ++ cond b (owned_info info ∷ []) []))) (sym (tied_texts q name) ∙ e)
        ∙ some_last (zone_of before q) (owned_info info)
    by_name false e h more = some_more (zone_of before q) _ (more h)

pub zones_given : (latest : List LineValue) (q : List ℕ)
    → list_any (eq_by_cmp text_cmp q) (flat_map zone_names latest) ≡ is_some (listed (zone_of latest q))
zones_given latest q = both_ways _ _ (given_owned latest q) (zone_named latest q)

-- ---- and a link has it exactly where a line gives it by one

pub links_given : (latest : List LineValue) (q : List ℕ) → list_any (eq_by_cmp text_cmp q) (flat_map link_names latest) ≡ is_some (link_of latest q)
links_given [] q = refl
links_given (space ∷ before) q = links_given before q
links_given (rule r ∷ before) q = links_given before q
links_given (continuation info ∷ before) q = links_given before q
links_given (zone name info ∷ before) q = links_given before q
links_given (link existing name ∷ before) q =
    (λ i. tied_texts q name i || links_given before q i) ∙ by_name (bytes_eq name q)
  where
    by_name : (b : Bool) → (b || is_some (link_of before q)) ≡ is_some (cond b (Some existing) (link_of before q))
    by_name true = refl
    by_name false = refl

-- ---- a line gives a name to a zone or by a link

either_given : (test : List ℕ → Bool) (latest : List LineValue)
    → list_any test (flat_map names_by latest) ≡ (list_any test (flat_map zone_names latest) || list_any test (flat_map link_names latest))
either_given test [] = refl
either_given test (space ∷ before) = either_given test before
either_given test (rule r ∷ before) = either_given test before
either_given test (continuation info ∷ before) = either_given test before
either_given test (zone name info ∷ before) =
    ap (λ b. test name || b) (either_given test before) ∙ onto (test name) _ _
  where
    onto : (a b c : Bool) → (a || (b || c)) ≡ ((a || b) || c)
    onto true b c = refl
    onto false b c = refl
either_given test (link existing name ∷ before) =
    ap (λ b. test name || b) (either_given test before) ∙ between (test name) _ _
  where
    between : (a b c : Bool) → (a || (b || c)) ≡ (b || (a || c))
    between true true c = refl
    between true false c = refl
    between false b c = refl

pub names_given : (latest : List LineValue) (q : List ℕ)
    → list_any (eq_by_cmp text_cmp q) (flat_map names_by latest) ≡ (is_some (listed (zone_of latest q)) || is_some (link_of latest q))
names_given latest q = either_given (eq_by_cmp text_cmp q) latest ∙ (λ i. zones_given latest q i || links_given latest q i)

-- ---- so the names are the same, and find the same

found_is : (table : Table) (source name : List ℕ) → IsTableOf table (values_of source) → compiled_in table name ≡ found_in source name
unfolding found_in zone_in rules_in
found_is table source name is = λ i.
    option_map (compiled (λ rules. is.rulesets rules i)) (resolved_in-IsTableOf table (reverse (values_of source)) is name i)

pub content_same : (table : Table) (source : List ℕ) → IsTableOf table (values_of source)
    → ◌≡◌ {A = List ℕ → Result Content Why} (λ name. zone_content name (compiled_in table name)) (λ name. zone_content name (found_in source name))
content_same table source is = λ i name. zone_content name (found_is table source name is i)

pub finds_same : (table : Table) (source : List ℕ) (content : List ℕ → Result Content Why) → IsTableOf table (values_of source)
    → finds_by_table table content ≡ finds_by source content
finds_same table source content is = λ i. record {
  zones = keys_are table.zonesets _ (λ q. zones_given (reverse (values_of source)) q ∙ ap is_some (sym (is.zonesets q))) i;
  links = keys_are table.links _ (λ q. links_given (reverse (values_of source)) q ∙ ap is_some (sym (is.links q))) i;
  is_zone = λ name. is_some (is.zonesets name i);
  content = content;
  target = λ name. is.links name i;
}
