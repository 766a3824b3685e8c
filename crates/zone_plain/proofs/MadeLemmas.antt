-- The rules at the places of a ruleset are its rules.
use Rattle.std.proofs.{Common.{◌≡◌, ℕ, zero, suc, ◌+◌, ℤ, Bool, true, false, cond, List, [], ◌∷◌, ◌++◌, length, map, get_or, drop, unwrap_or, ◌<◌, ◌≤◌, refl, sym, ap, ◌∙◌, append_assoc, append-nil, subst, arith}, lemmas.Grind.{flat_map-append}}
use Rattle.std.proofs.lemmas.List.{drop_all, drop_more, length-map}
use Rattle.std.specs.{Prelude.{◌&&◌, flat_map, bytes_eq}, List.{list_all}, FinMap.{FinMap, get}}
use Rattle.basics.specs.{Keyed.{text_cmp}, Listed.{listed}}
use Rattle.zone_plain.specs.{Written.{line_text}, Pairs.{Pair}, Made.{rules_named, made_rule, is_rule_said, rules_for, are_rules_said}, ToldOffsets.{value_in, places_from, IsGrouped, AreAdded, made_lines, is_made_said}}
use Rattle.zone_table.specs.Values.{RuleValue, LineValue, space, rule}

shifted : (at k : ℕ) → suc at + k ≡ at + suc k
shifted at k = omega arith

from_zero : (k : ℕ) → 0 + k ≡ k
from_zero k = omega arith

unshifted : (at : ℕ) → at ≡ at + 0
unshifted at = omega arith

-- what stands at the places of the rules of a name
at_places : (values : List LineValue) (at : ℕ) (name : List ℕ) (f : ℕ → LineValue) → ((k : ℕ) → f (at + k) ≡ get_or values k space)
    → map f (places_from at values name) ≡ map rule (rules_named values name)
unfolding places_from rules_named
at_places [] at name f e = refl
at_places (rule r ∷ values) at name f e =
    here (bytes_eq r.name name) (at_places values (suc at) name f (λ k. ap f (shifted at k) ∙ e (suc k))) (ap f (unshifted at) ∙ e 0)
  where
    here : (b : Bool) → map f (places_from (suc at) values name) ≡ map rule (rules_named values name) → f at ≡ rule r
        → map f (cond b (at ∷ []) [] ++ places_from (suc at) values name) ≡ map rule (cond b (r ∷ rules_named values name) (rules_named values name))
    here true rest first = λ i. first i ∷ rest i
    here false rest first = rest
at_places (_ ∷ values) at name f e = at_places values (suc at) name f (λ k. ap f (shifted at k) ∙ e (suc k))

made_of_rules : (rules : List RuleValue) (name : List ℕ) (offset : ℤ)
    → flat_map (made_lines name offset) (map rule rules) ≡ map (λ r. rule (made_rule name offset r)) rules
made_of_rules [] name offset = refl
made_of_rules (r ∷ rules) name offset = ap (λ vs. rule (made_rule name offset r) ∷ vs) (made_of_rules rules name offset)

said_of_rules : (rules : List RuleValue) (name : List ℕ) (offset : ℤ)
    → list_all (is_made_said name offset) (map rule rules) ≡ list_all (is_rule_said name offset) rules
said_of_rules [] name offset = refl
said_of_rules (r ∷ rules) name offset = ap (λ b. is_rule_said name offset r && b) (said_of_rules rules name offset)

rules_at : (values : List LineValue) (name : List ℕ) (places : List ℕ) → places ≡ places_from 0 values name
    → map (value_in values) places ≡ map rule (rules_named values name)
rules_at values name places e = ap (map (value_in values)) e ∙ at_places values 0 name (value_in values) (λ k. ap (value_in values) (from_zero k))

-- what was added of the rules at the places of a ruleset is the ruleset that is made for a pair
pub ruleset_added : (values : List LineValue) (old new : List ℕ) (name : List ℕ) (pair : Pair) (places : List ℕ) (said : Bool)
    → places ≡ places_from 0 values pair.rules
    → AreAdded old new (flat_map (made_lines name pair.offset) (map (value_in values) places))
    (list_all (is_made_said name pair.offset) (map (value_in values) places)) said
    → AreAdded old new (rules_for values name pair) (are_rules_said values name pair) said
ruleset_added values old new name pair places said e added =
    let found = rules_at values pair.rules places e in
    let rules = rules_named values pair.rules in
    record {
      told = added.told ∙ ap (list_all (is_made_said name pair.offset)) found ∙ said_of_rules rules name pair.offset;
      added = λ is_yes. added.added is_yes
          ∙ ap (λ vs. old ++ flat_map line_text vs) (ap (flat_map (made_lines name pair.offset)) found ∙ made_of_rules rules name pair.offset);
    }

unlisted : (xs : List ℕ) → unwrap_or (listed xs) [] ≡ xs
unlisted [] = refl
unlisted (x ∷ xs) = refl

pub places_are : (values : List LineValue) (groups : FinMap text_cmp (List ℕ)) (name places : List ℕ) → IsGrouped values groups
    → places ≡ unwrap_or (get groups name) [] → places ≡ places_from 0 values name
places_are values groups name places grouped e = e ∙ ap (λ o. unwrap_or o []) (grouped name) ∙ unlisted (places_from 0 values name)

-- what was made of the first rules, and what is to come
pub record HasMade (name : List ℕ) (offset : ℤ) (values : List LineValue) (old now : List ℕ) (i : ℕ) : Type 0 where
  pub goes_on : now ++ flat_map line_text (flat_map (made_lines name offset) (drop i values)) ≡ old ++ flat_map line_text (flat_map (made_lines name offset) values)
  pub said : list_all (is_made_said name offset) (drop i values) ≡ list_all (is_made_said name offset) values

pub nothing_made : (name : List ℕ) (offset : ℤ) (values : List LineValue) (old : List ℕ) → HasMade name offset values old old 0
nothing_made name offset values old = record { goes_on = refl; said = refl }

value_read : (values : List LineValue) (places : List ℕ) (i : ℕ) → i < length places
    → value_in values (get_or places i 0) ≡ get_or (map (value_in values) places) i space
value_read values [] i inside = absurd (omega (arith, inside))
value_read values (p ∷ places) zero inside = refl
value_read values (p ∷ places) (suc i) inside = value_read values places i (omega (arith, inside))

pub one_made : (name : List ℕ) (offset : ℤ) (values : List LineValue) (places : List ℕ) (old before now : List ℕ) (i : ℕ) (v : LineValue) (said : Bool)
    → i < length places → v ≡ value_in values (get_or places i 0) → HasMade name offset (map (value_in values) places) old before i
    → AreAdded before now (made_lines name offset v) (is_made_said name offset v) said → said ≡ true
    → HasMade name offset (map (value_in values) places) old now (i + 1)
one_made name offset values places old before now i v said inside is so_far added is_yes =
    let found = map (value_in values) places in
    let here = is ∙ value_read values places i inside in
    let left : drop i found ≡ v ∷ drop (i + 1) found =
    drop_more found i space (omega (arith, inside, length-map places (value_in values))) ∙ ap (λ w. w ∷ drop (i + 1) found) (sym here) in
    let fits = sym added.told ∙ is_yes in
    record {
      goes_on = ap (λ ts. ts ++ flat_map line_text (flat_map (made_lines name offset) (drop (i + 1) found))) (added.added is_yes)
          ∙ append_assoc before (flat_map line_text (made_lines name offset v)) (flat_map line_text (flat_map (made_lines name offset) (drop (i + 1) found)))
          ∙ ap (λ ts. before ++ ts) (sym (flat_map-append line_text (made_lines name offset v) (flat_map (made_lines name offset) (drop (i + 1) found))))
          ∙ ap (λ vs. before ++ flat_map line_text (flat_map (made_lines name offset) vs)) (sym left) ∙ so_far.goes_on;
      said = ap (λ b. b && list_all (is_made_said name offset) (drop (i + 1) found)) (sym fits)
          ∙ ap (list_all (is_made_said name offset)) (sym left) ∙ so_far.said;
    }

pub one_unsaid : (name : List ℕ) (offset : ℤ) (values : List LineValue) (places : List ℕ) (old before now : List ℕ) (i : ℕ) (v : LineValue) (said : Bool)
    → i < length places → v ≡ value_in values (get_or places i 0) → HasMade name offset (map (value_in values) places) old before i
    → AreAdded before now (made_lines name offset v) (is_made_said name offset v) said → said ≡ false
    → AreAdded old now (flat_map (made_lines name offset) (map (value_in values) places)) (list_all (is_made_said name offset) (map (value_in values) places)) false
one_unsaid name offset values places old before now i v said inside is so_far added is_no =
    let found = map (value_in values) places in
    let here = is ∙ value_read values places i inside in
    let left : drop i found ≡ v ∷ drop (i + 1) found =
    drop_more found i space (omega (arith, inside, length-map places (value_in values))) ∙ ap (λ w. w ∷ drop (i + 1) found) (sym here) in
    record {
      told = ap (λ b. b && list_all (is_made_said name offset) (drop (i + 1) found)) (sym is_no ∙ added.told)
          ∙ ap (list_all (is_made_said name offset)) (sym left) ∙ so_far.said;
      added = λ is_yes. absurd (cc);
    }

pub all_made : (name : List ℕ) (offset : ℤ) (values : List LineValue) (places : List ℕ) (old now : List ℕ) (i : ℕ) → length places ≤ i
    → HasMade name offset (map (value_in values) places) old now i
    → AreAdded old now (flat_map (made_lines name offset) (map (value_in values) places)) (list_all (is_made_said name offset) (map (value_in values) places)) true
all_made name offset values places old now i past so_far =
    let found = map (value_in values) places in
    let none = drop_all i found (omega (arith, past, length-map places (value_in values))) in
    record {
      told = ap (list_all (is_made_said name offset)) (sym none) ∙ so_far.said;
      added = λ is_yes. sym (append-nil now) ∙ ap (λ vs. now ++ flat_map line_text (flat_map (made_lines name offset) vs)) (sym none) ∙ so_far.goes_on;
    }

pub ruleset_named : (values : List LineValue) (old new : List ℕ) (text name : List ℕ) (pair : Pair) (offset : ℤ) (places : List ℕ) (said : Bool) → text ≡ name
    → offset ≡ pair.offset → places ≡ places_from 0 values pair.rules
    → AreAdded old new (flat_map (made_lines text offset) (map (value_in values) places))
    (list_all (is_made_said text offset) (map (value_in values) places)) said
    → AreAdded old new (rules_for values name pair) (are_rules_said values name pair) said
ruleset_named values old new text name pair offset places said same same_offset e added =
    subst (λ n. AreAdded old new (rules_for values n pair) (are_rules_said values n pair) said) same
    (ruleset_added values old new text pair places said e
    (subst (λ o. AreAdded old new (flat_map (made_lines text o) (map (value_in values) places))
    (list_all (is_made_said text o) (map (value_in values) places)) said) same_offset added))

-- the same for an offset that is this one

pub unsaid_at : (name : List ℕ) (given offset : ℤ) (values : List LineValue) (places : List ℕ) (old before now : List ℕ) (i : ℕ) (v : LineValue) (said : Bool)
    → given ≡ offset → i < length places → v ≡ value_in values (get_or places i 0) → HasMade name given (map (value_in values) places) old before i
    → AreAdded before now (made_lines name given v) (is_made_said name given v) said → said ≡ false
    → AreAdded old now (flat_map (made_lines name offset) (map (value_in values) places)) (list_all (is_made_said name offset) (map (value_in values) places)) false
unsaid_at name given offset values places old before now i v said same inside is so_far added is_no =
    subst (λ o. AreAdded old now (flat_map (made_lines name o) (map (value_in values) places))
    (list_all (is_made_said name o) (map (value_in values) places)) false) same
    (one_unsaid name given values places old before now i v said inside is so_far added is_no)

pub all_made_at : (name : List ℕ) (given offset : ℤ) (values : List LineValue) (places : List ℕ) (old now : List ℕ) (i : ℕ) → given ≡ offset
    → length places ≤ i → HasMade name given (map (value_in values) places) old now i
    → AreAdded old now (flat_map (made_lines name offset) (map (value_in values) places)) (list_all (is_made_said name offset) (map (value_in values) places)) true
all_made_at name given offset values places old now i same past so_far =
    subst (λ o. AreAdded old now (flat_map (made_lines name o) (map (value_in values) places))
    (list_all (is_made_said name o) (map (value_in values) places)) true) same
    (all_made name given values places old now i past so_far)
