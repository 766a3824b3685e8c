-- A name and the names on its way.
use Rattle.std.proofs.{Common.{◌≡◌, ℕ, suc, ◌+◌, ◌≤◌, List, length, Bool, true, false, cond, Option, Some, None, refl, sym, ap, ◌∙◌, subst, arith, rules}, lemmas.Option.{none-some, same_Some}}
use Rattle.std.specs.{Prelude.{bytes_eq, is_some}, Option.{option_or}, FinMap.{FinMap, get, insert}, Cmp.Lexicographic.{bytes_decides}}
use Rattle.basics.specs.{Keyed.{text_cmp}, KeyedLaws.{get-inserted}}
use Rattle.zone_table.specs.Values.{LineValue}
use Rattle.zone_plain.specs.{Declares.{has_zone, target_of}, Leads.{leads_to, zone_behind}, Stands.{names_of, IsPlaced, IsDeclared, IsKept, IsKnown, IsBehind, LeadsTo}, declared.links.Declared.{Declared}}
use Rattle.zone_plain.proofs.LeadsLaws.{followed, stuck, dead_end, rises, is_behind, behind_itself, behind_link}

-- a name leads where another does that is so many links on
abbrev pub AreSteps : List LineValue → List ℕ → List ℕ → ℕ → Type 0
AreSteps values name at i = (k : ℕ) → leads_to values (k + i) name ≡ leads_to values k at

pub no_steps : (values : List LineValue) (name : List ℕ) → AreSteps values name name 0
no_steps values name k = ap (λ n. leads_to values n name) (plus_none k)
  where
    plus_none : (k : ℕ) → k + 0 ≡ k
    plus_none k = omega arith

-- what was found of a name
abbrev pub place_in : Declared → FinMap text_cmp ℕ → List ℕ → Option ℕ
place_in d known name = option_or (get d.zones name) (get known name)

pub met : (d : Declared) (values : List LineValue) (known : FinMap text_cmp ℕ) (name : List ℕ) (place : ℕ) → IsDeclared d values
    → IsKnown (names_of d) values known → place_in d known name ≡ Some place → LeadsTo (names_of d) values name place
met d values known name place declared known_is e =
    by (get d.zones name) (get known name) (declared.zones name) (known_is name) e
  where
    by : (a b : Option ℕ) → IsPlaced (names_of d) name (has_zone values name) a → IsKept (names_of d) values name b → option_or a b ≡ Some place
        → LeadsTo (names_of d) values name place
    by None None placed kept e = absurd (none-some place e)
    by None (Some p) placed kept e = subst (LeadsTo (names_of d) values name) (same_Some p place e) kept
    by (Some p) b placed kept e = subst (LeadsTo (names_of d) values name) (same_Some p place e) (record {
      zone = name;
      here = placed.1;
      behind = behind_itself values name placed.0;
    })

pub unmet : (d : Declared) (values : List LineValue) (known : FinMap text_cmp ℕ) (name : List ℕ) → IsDeclared d values
    → place_in d known name ≡ None → has_zone values name ≡ false
unmet d values known name declared e = by (get d.zones name) (get known name) (declared.zones name) e
  where
    by : (a b : Option ℕ) → IsPlaced (names_of d) name (has_zone values name) a → option_or a b ≡ None → has_zone values name ≡ false
    by None b placed e = placed
    by (Some p) b placed e = absurd (none-some p (sym e))

pub found : (names : List (List ℕ)) (values : List LineValue) (name at : List ℕ) (i place : ℕ) → AreSteps values name at i
    → LeadsTo names values at place → LeadsTo names values name place
unfolding zone_behind
found names values name at i place steps leads = record {
  zone = leads.zone;
  here = leads.here;
  behind = is_behind values (length values + i) name leads.zone (steps (length values) ∙ leads.behind);
}

-- what leads nowhere by any number of links
lost : (values : List LineValue) (name at : List ℕ) (i k : ℕ) → AreSteps values name at i → length values ≤ k + i
    → leads_to values k at ≡ None → zone_behind values name ≡ None
unfolding zone_behind
lost values name at i k steps far none = by (leads_to values (length values) name) refl
  where
    by : (o : Option (List ℕ)) → leads_to values (length values) name ≡ o → leads_to values (length values) name ≡ None
    by None e = e
    by (Some z) e =
        absurd (none-some z (sym none ∙ sym (steps k) ∙ rises (has_zone values) (target_of values) (length values) (k + i) name z far e))

pub at_end : (values : List LineValue) (name at : List ℕ) (i : ℕ) → AreSteps values name at i → has_zone values at ≡ false
    → target_of values at ≡ None → zone_behind values name ≡ None
at_end values name at i steps is to =
    lost values name at i (length values) steps (omega arith) (dead_end (has_zone values) (target_of values) (length values) at is to)

pub too_far : (values : List LineValue) (name at : List ℕ) (i : ℕ) → AreSteps values name at i → length values ≤ i
    → has_zone values at ≡ false → zone_behind values name ≡ None
too_far values name at i steps far is = lost values name at i 0 steps (omega (arith, far)) (stuck (has_zone values) (target_of values) at is)

pub one_on : (values : List LineValue) (name at t : List ℕ) (i : ℕ) → AreSteps values name at i → has_zone values at ≡ false
    → target_of values at ≡ Some t → AreSteps values name t (i + 1)
one_on values name at t i steps is to k =
    ap (λ n. leads_to values n name) (one_later k i) ∙ steps (suc k) ∙ followed (has_zone values) (target_of values) k at t is to
  where
    one_later : (k i : ℕ) → k + (i + 1) ≡ suc k + i
    one_later k i = omega arith

-- what is behind a name that is no zone is behind its target
pub on_the_way : (names : List (List ℕ)) (values : List LineValue) (at t : List ℕ) (place : ℕ) → has_zone values at ≡ false
    → target_of values at ≡ Some t → LeadsTo names values at place → LeadsTo names values t place
on_the_way names values at t place is to leads = record {
  zone = leads.zone;
  here = leads.here;
  behind = sym (behind_link values at t is to) ∙ leads.behind;
}

-- what is known with one name more
pub known_more : (names : List (List ℕ)) (values : List LineValue) (old new : FinMap text_cmp ℕ) (at : List ℕ) (place : ℕ)
    → new ≡ insert old at place → IsKnown names values old → LeadsTo names values at place → IsKnown names values new
known_more names values old new at place is known leads name =
    subst (IsKept names values name) (sym (ap (λ m. get m name) is ∙ get-inserted old at name place)) (by (bytes_eq at name) refl)
  where
    by : (b : Bool) → bytes_eq at name ≡ b → IsKept names values name (cond b (Some place) (get old name))
    by false e = known name
    by true e = subst (λ n. LeadsTo names values n place) ((bytes_decides at name).0 e) leads

pub none_met : (d : Declared) (known : FinMap text_cmp ℕ) (at : List ℕ) (o : Option ℕ) → o ≡ place_in d known at → is_some o ≡ false
    → place_in d known at ≡ None
none_met d known at None e lacks = sym e
none_met d known at (Some p) e lacks = search rules

-- a place that was found on the way
pub met_here : (d : Declared) (values : List LineValue) (known : FinMap text_cmp ℕ) (name at : List ℕ) (i : ℕ) (o : Option ℕ)
    → o ≡ place_in d known at → is_some o ≡ true → AreSteps values name at i → IsDeclared d values → IsKnown (names_of d) values known
    → IsBehind (names_of d) values name o
met_here d values known name at i None e has steps declared known_is = search rules
met_here d values known name at i (Some p) e has steps declared known_is =
    found (names_of d) values name at i p steps (met d values known at p declared known_is (sym e))

-- a place that was looked for after enough steps
pub met_last : (d : Declared) (values : List LineValue) (known : FinMap text_cmp ℕ) (name at : List ℕ) (i : ℕ) (o : Option ℕ)
    → o ≡ place_in d known at → length values ≤ i → AreSteps values name at i → IsDeclared d values → IsKnown (names_of d) values known
    → IsBehind (names_of d) values name o
met_last d values known name at i None e far steps declared known_is =
    too_far values name at i steps far (unmet d values known at declared (sym e))
met_last d values known name at i (Some p) e far steps declared known_is =
    found (names_of d) values name at i p steps (met d values known at p declared known_is (sym e))

-- nothing points on from a name that isn't known
pub ended : (d : Declared) (values : List LineValue) (known : FinMap text_cmp ℕ) (name at : List ℕ) (i : ℕ) → place_in d known at ≡ None
    → None ≡ get d.targets at → AreSteps values name at i → IsDeclared d values → zone_behind values name ≡ None
ended d values known name at i none to steps declared =
    at_end values name at i steps (unmet d values known at declared none) (sym (to ∙ declared.targets at))

pub stepped : (d : Declared) (values : List LineValue) (known : FinMap text_cmp ℕ) (name at next target : List ℕ) (i : ℕ)
    → place_in d known at ≡ None → Some target ≡ get d.targets at → next ≡ target → AreSteps values name at i → IsDeclared d values
    → AreSteps values name next (i + 1)
stepped d values known name at next target i none to is steps declared =
    one_on values name at next i steps (unmet d values known at declared none)
    (sym (declared.targets at) ∙ sym to ∙ ap Some (sym is))

pub noted : (d : Declared) (values : List LineValue) (known new : FinMap text_cmp ℕ) (at next target : List ℕ) (place : ℕ)
    → place_in d known at ≡ None → Some target ≡ get d.targets at → next ≡ target → new ≡ insert known at place → IsDeclared d values
    → IsKnown (names_of d) values known × LeadsTo (names_of d) values at place → IsKnown (names_of d) values new × LeadsTo (names_of d) values next place
noted d values known new at next target place none to is put declared so_far = (
  known_more (names_of d) values known new at place put so_far.0 so_far.1,
  on_the_way (names_of d) values at next place (unmet d values known at declared none)
      (sym (declared.targets at) ∙ sym to ∙ ap Some (sym is)) so_far.1,
)
