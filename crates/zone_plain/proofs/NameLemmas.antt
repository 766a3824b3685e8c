-- What is declared with a line more.
use Rattle.std.proofs.{Common.{◌≡◌, ℕ, zero, suc, ◌+◌, ◌<◌, List, [], ◌∷◌, ◌++◌, length, map, Bool, true, false, cond, Option, Some, None, refl, sym, ap, ◌∙◌, subst, arith, rules}, Math.Bool.{or-false, or-true, or_assoc}}
use Rattle.std.proofs.lemmas.List.{get_or-map, length-map, take_more}
use Rattle.std.specs.{Prelude.{bytes_eq, is_some, slice_get, ◌||◌, take, get_or}, Option.{option_or}, FinMap.{FinMap, get, insert, empty, get-empty, contains_key}, Cmp.Lexicographic.{bytes_decides}}
use Rattle.basics.specs.{Keyed.{text_cmp}, KeyedLaws.{get-inserted}}
use Rattle.zone_table.specs.{Values.{LineValue, InfoValue, RuleValue, line_value, space, zone, rule, link}, declared.line.Line.{Line}, declared.line.Line.TheVariants.{Space}}
use Rattle.zone_plain.specs.{Declares.{zone_name, ruleset_name, is_that, declares, has_zone, target_by, target_of}, Stands.{names_of, IsPlaced, IsDeclared, AddsTarget}, declared.links.Declared.{Declared}}
use Rattle.zone_plain.proofs.TargetLaws.{target-more, or_none, target-other}

pub declares-more : (name_of : LineValue → Option (List ℕ)) (vs : List LineValue) (v : LineValue) (name : List ℕ)
    → declares name_of (vs ++ v ∷ []) name ≡ (declares name_of vs name || is_that (name_of v) name)
declares-more name_of [] v name = or-false (is_that (name_of v) name)
declares-more name_of (w ∷ vs) v name =
    ap (λ b. is_that (name_of w) name || b) (declares-more name_of vs v name)
    ∙ sym (or_assoc (is_that (name_of w) name) (declares name_of vs name) (is_that (name_of v) name))

pub declares-other : (name_of : LineValue → Option (List ℕ)) (vs : List LineValue) (v : LineValue) → name_of v ≡ None → (name : List ℕ)
    → declares name_of (vs ++ v ∷ []) name ≡ declares name_of vs name
declares-other name_of vs v none name =
    declares-more name_of vs v name ∙ ap (λ o. declares name_of vs name || is_that o name) none ∙ or-false (declares name_of vs name)

-- a set of names with one more
pub contains-inserted : (m : FinMap text_cmp (Unit {0})) (name q : List ℕ)
    → contains_key (insert m name tt) q ≡ (contains_key m q || bytes_eq name q)
contains-inserted m name q = ap is_some (get-inserted m name q tt) ∙ by (bytes_eq name q) (get m q)
  where
    by : (b : Bool) (o : Option (Unit {0})) → is_some (cond b (Some tt) o) ≡ (is_some o || b)
    by true None = refl
    by true (Some x) = refl
    by false None = refl
    by false (Some x) = refl

pub link_known : (old : FinMap text_cmp (List ℕ)) (existing new : List ℕ) → contains_key old new ≡ true → AddsTarget old old existing new
link_known old existing new has values h name =
    h name ∙ sym (target-more values (link existing new) name ∙ by (bytes_eq new name) refl)
  where
    stays : (o : Option (List ℕ)) (x : Option (List ℕ)) → is_some o ≡ true → option_or o x ≡ o
    stays None x e = search rules
    stays (Some y) x e = refl

    by : (b : Bool) → bytes_eq new name ≡ b → option_or (target_of values name) (cond b (Some existing) None) ≡ target_of values name
    by false e = or_none (target_of values name)
    by true e =
        stays (target_of values name) (Some existing)
        (ap is_some (sym (h name)) ∙ ap (λ n. is_some (get old n)) (sym ((bytes_decides new name).0 e)) ∙ has)

pub link_added : (old new_map : FinMap text_cmp (List ℕ)) (existing new : List ℕ) → contains_key old new ≡ false
    → new_map ≡ insert old new existing → AddsTarget old new_map existing new
link_added old new_map existing new lacks is values h name =
    ap (λ m. get m name) is ∙ get-inserted old new name existing
    ∙ by (bytes_eq new name) refl ∙ sym (target-more values (link existing new) name)
  where
    none : (o : Option (List ℕ)) (x : Option (List ℕ)) → is_some o ≡ false → x ≡ option_or o x
    none None x e = refl
    none (Some y) x e = search rules

    by : (b : Bool) → bytes_eq new name ≡ b → cond b (Some existing) (get old name) ≡ option_or (target_of values name) (cond b (Some existing) None)
    by false e = h name ∙ sym (or_none (target_of values name))
    by true e =
        none (target_of values name) (Some existing)
        (ap is_some (sym (h name)) ∙ ap (λ n. is_some (get old n)) (sym ((bytes_decides new name).0 e)) ∙ lacks)

-- places among more names
slice_get-more : (xs : List (List ℕ)) (y : List ℕ) (i : ℕ) (x : List ℕ) → slice_get xs i ≡ Some x → slice_get (xs ++ y ∷ []) i ≡ Some x
slice_get-more [] y i x e = search rules
slice_get-more (z ∷ xs) y zero x e = e
slice_get-more (z ∷ xs) y (suc i) x e = slice_get-more xs y i x e

slice_get-last : (xs : List (List ℕ)) (y : List ℕ) → slice_get (xs ++ y ∷ []) (length xs) ≡ Some y
slice_get-last [] y = refl
slice_get-last (x ∷ xs) y = slice_get-last xs y

more_names : (names : List (List ℕ)) (y name : List ℕ) (b : Bool) (o : Option ℕ) → IsPlaced names name b o → IsPlaced (names ++ y ∷ []) name b o
more_names names y name b None h = h
more_names names y name b (Some place) h = (h.0, slice_get-more names y place name h.1)

placed_here : (names : List (List ℕ)) (y name : List ℕ) (b same : Bool) (o : Option ℕ) → bytes_eq y name ≡ same → IsPlaced names name b o
    → IsPlaced (names ++ y ∷ []) name (b || same) (cond same (Some (length names)) o)
placed_here names y name b false o e h = subst (λ c. IsPlaced (names ++ y ∷ []) name c o) (sym (or-false b)) (more_names names y name b o h)
placed_here names y name b true o e h = (or-true b, slice_get-last names y ∙ ap Some ((bytes_decides y name).0 e))

pub no_names : (d : Declared) → names_of d ≡ [] → d.zones ≡ empty → d.targets ≡ empty → d.rulesets ≡ empty → IsDeclared d []
no_names d names zones targets rulesets = record {
  zones = λ name. subst (λ o. IsPlaced (names_of d) name false o) (sym (ap (λ m. get m name) zones ∙ get-empty text_cmp name)) refl;
  targets = λ name. ap (λ m. get m name) targets ∙ get-empty text_cmp name;
  rulesets = λ name. ap is_some (ap (λ m. get m name) rulesets ∙ get-empty text_cmp name);
}

-- a line that declares nothing
pub nothing_more : (d : Declared) (values : List LineValue) (v : LineValue) → zone_name v ≡ None → ruleset_name v ≡ None
    → ((name : List ℕ) → target_by v name ≡ None) → IsDeclared d values → IsDeclared d (values ++ v ∷ [])
nothing_more d values v no_zone no_rule no_link h = record {
  zones = λ name. subst (λ b. IsPlaced (names_of d) name b (get d.zones name)) (sym (declares-other zone_name values v no_zone name)) (h.zones name);
  targets = λ name. h.targets name ∙ sym (target-other values v no_link name);
  rulesets = λ name. h.rulesets name ∙ sym (declares-other ruleset_name values v no_rule name);
}

pub zone_more : (d new : Declared) (values : List LineValue) (name : List ℕ) (info : InfoValue) → names_of new ≡ names_of d ++ name ∷ []
    → new.zones ≡ insert d.zones name (length (names_of d)) → new.targets ≡ d.targets → new.rulesets ≡ d.rulesets
    → IsDeclared d values → IsDeclared new (values ++ zone name info ∷ [])
zone_more d new values name info names zones targets rulesets h = record {
  zones = λ q. at q;
  targets = λ q. ap (λ m. get m q) targets ∙ h.targets q ∙ sym (target-other values (zone name info) (λ _. refl) q);
  rulesets = λ q. ap (λ m. contains_key m q) rulesets ∙ h.rulesets q ∙ sym (declares-other ruleset_name values (zone name info) refl q);
}
  where
    here : (q : List ℕ) → IsPlaced ((names_of d) ++ name ∷ []) q (has_zone values q || bytes_eq name q) (cond (bytes_eq name q) (Some (length (names_of d))) (get d.zones q))
    here q = placed_here (names_of d) name q (has_zone values q) (bytes_eq name q) (get d.zones q) refl (h.zones q)

    at : (q : List ℕ) → IsPlaced (names_of new) q (has_zone (values ++ zone name info ∷ []) q) (get new.zones q)
    at q =
        subst (λ ns. IsPlaced ns q (has_zone (values ++ zone name info ∷ []) q) (get new.zones q)) (sym names)
        (subst (λ b. IsPlaced ((names_of d) ++ name ∷ []) q b (get new.zones q)) (sym (declares-more zone_name values (zone name info) q))
        (subst (λ o. IsPlaced ((names_of d) ++ name ∷ []) q (has_zone values q || bytes_eq name q) o)
        (sym (ap (λ m. get m q) zones ∙ get-inserted d.zones name q (length (names_of d)))) (here q)))

pub rule_more : (d new : Declared) (values : List LineValue) (r : RuleValue) → names_of new ≡ names_of d → new.zones ≡ d.zones
    → new.targets ≡ d.targets → new.rulesets ≡ insert d.rulesets r.name tt → IsDeclared d values → IsDeclared new (values ++ rule r ∷ [])
rule_more d new values r names zones targets rulesets h = record {
  zones = λ q.
      subst (λ b. IsPlaced (names_of new) q b (get new.zones q)) (sym (declares-other zone_name values (rule r) refl q))
      (subst (λ ns. IsPlaced ns q (has_zone values q) (get new.zones q)) (sym names)
      (subst (λ m. IsPlaced (names_of d) q (has_zone values q) (get m q)) (sym zones) (h.zones q)));
  targets = λ q. ap (λ m. get m q) targets ∙ h.targets q ∙ sym (target-other values (rule r) (λ _. refl) q);
  rulesets = λ q.
      ap (λ m. contains_key m q) rulesets ∙ contains-inserted d.rulesets r.name q
      ∙ ap (λ b. b || bytes_eq r.name q) (h.rulesets q) ∙ sym (declares-more ruleset_name values (rule r) q);
}

pub link_more : (d new : Declared) (values : List LineValue) (existing name : List ℕ) → names_of new ≡ names_of d → new.zones ≡ d.zones
    → AddsTarget d.targets new.targets existing name → new.rulesets ≡ d.rulesets → IsDeclared d values
    → IsDeclared new (values ++ link existing name ∷ [])
link_more d new values existing name names zones targets rulesets h = record {
  zones = λ q.
      subst (λ b. IsPlaced (names_of new) q b (get new.zones q)) (sym (declares-other zone_name values (link existing name) refl q))
      (subst (λ ns. IsPlaced ns q (has_zone values q) (get new.zones q)) (sym names)
      (subst (λ m. IsPlaced (names_of d) q (has_zone values q) (get m q)) (sym zones) (h.zones q)));
  targets = targets values h.targets;
  rulesets = λ q. ap (λ m. contains_key m q) rulesets ∙ h.rulesets q ∙ sym (declares-other ruleset_name values (link existing name) refl q);
}

-- the first lines that were read, and one more
pub one_line_more : (lines : List Line) (i : ℕ) → i < length lines
    → take (i + 1) (map line_value lines) ≡ take i (map line_value lines) ++ line_value (get_or lines i Space) ∷ []
one_line_more lines i inside =
    take_more (map line_value lines) i space (omega (arith, inside, length-map lines line_value))
    ∙ ap (λ v. take i (map line_value lines) ++ v ∷ []) (get_or-map line_value lines i Space space inside)
