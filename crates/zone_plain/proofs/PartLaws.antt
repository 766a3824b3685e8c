-- The names that lines give, by the parts of what is written.
use Rattle.std.{proofs.Common.{◌≡◌, ℕ, List, [], ◌∷◌, ◌++◌, map, true, Option, None, Ok, refl, ap, ◌∙◌, append-nil}, specs.Prelude.{option_to_list}, proofs.lemmas.Bool.{both_ways}}
use Rattle.zone_table.specs.Values.{InfoValue, RuleValue, LineValue, zone, continuation, rule, link}
use Rattle.zone_plain.proofs.{Clean.{new_name, names_by}, CleanLaws.{names_append}, PartLemmas.{GivesIn, parts_give}}
use Rattle.zone_plain.specs.{Declares.{zone_name, ruleset_name}, Made.{made_rule, rules_named, rules_for, changed_by, changed, name_in, made_for, made}, MadeLaws.{written_is}, Pairs.{Pair, Asked, total, under, asked, pairs_of}, WrittenOut.{written_out}}
use Rattle.zone_plain.specs.{Written.{Rules, Zones, Links}, WrittenLines.{in_parts}}

-- what a line gives as a name
abbrev Naming : Type 0
Naming = LineValue → Option (List ℕ)

zones_alone : GivesIn Zones (λ v. option_to_list (zone_name v))
zones_alone (zone name info) h = absurd (both_ways true h refl)
zones_alone _ h = refl

links_alone : GivesIn Links (λ v. option_to_list (new_name v))
links_alone (link existing new) h = absurd (both_ways true h refl)
links_alone _ h = refl

rules_alone : GivesIn Rules (λ v. option_to_list (ruleset_name v))
rules_alone (rule r) h = absurd (both_ways true h refl)
rules_alone _ h = refl

-- the parts give the names that the lines give
pub parts_zones : (values : List LineValue) → names_by zone_name (in_parts values) ≡ names_by zone_name values
parts_zones values = parts_give (λ v. option_to_list (zone_name v)) Zones zones_alone values

pub parts_links : (values : List LineValue) → names_by new_name (in_parts values) ≡ names_by new_name values
parts_links values = parts_give (λ v. option_to_list (new_name v)) Links links_alone values

pub parts_rules : (values : List LineValue) → names_by ruleset_name (in_parts values) ≡ names_by ruleset_name values
parts_rules values = parts_give (λ v. option_to_list (ruleset_name v)) Rules rules_alone values

-- ---- where `%z` is written out

-- a name that doesn't come of what a line says of a stretch of time stays
changed_same : (naming : Naming) → ((name : List ℕ) (i j : InfoValue) → naming (zone name i) ≡ naming (zone name j))
    → ((i j : InfoValue) → naming (continuation i) ≡ naming (continuation j))
    → (name_of : Pair → List ℕ) (a : Asked) (v : LineValue) → naming (changed_by name_of a v) ≡ naming v
changed_same naming of_zone of_line name_of (total parts t) (zone name info) = of_zone name _ info
changed_same naming of_zone of_line name_of (under parts pair) (zone name info) = of_zone name _ info
changed_same naming of_zone of_line name_of (total parts t) (continuation info) = of_line _ info
changed_same naming of_zone of_line name_of (under parts pair) (continuation info) = of_line _ info
changed_same naming of_zone of_line name_of _ _ = refl

changed_names : (naming : Naming) (name_of : Pair → List ℕ) → ((a : Asked) (v : LineValue) → naming (changed_by name_of a v) ≡ naming v)
    → (values : List LineValue) → names_by naming (map (changed name_of) values) ≡ names_by naming values
changed_names naming name_of same [] = refl
changed_names naming name_of same (v ∷ values) = λ i. option_to_list (same (asked v) v i) ++ changed_names naming name_of same values i

no_rule_names : (naming : Naming) → ((r : RuleValue) → naming (rule r) ≡ None) → (name : List ℕ) (pair : Pair) (rules : List RuleValue)
    → names_by naming (map (λ r. rule (made_rule name pair.offset r)) rules) ≡ []
no_rule_names naming none name pair [] = refl
no_rule_names naming none name pair (r ∷ rules) =
    λ i. option_to_list (none (made_rule name pair.offset r) i) ++ no_rule_names naming none name pair rules i

no_made_names : (naming : Naming) → ((r : RuleValue) → naming (rule r) ≡ None) → (all : List LineValue) (pairs : List Pair)
    → names_by naming (made_for all pairs) ≡ []
no_made_names naming none all [] = refl
no_made_names naming none all (pair ∷ pairs) =
    names_append naming (rules_for all (name_in all pair) pair) (made_for all pairs)
    ∙ (λ i. no_rule_names naming none (name_in all pair) pair (rules_named all pair.rules) i ++ no_made_names naming none all pairs i)

out_names : (naming : Naming) (values out : List LineValue) → ((a : Asked) (v : LineValue) → naming (changed_by (name_in values) a v) ≡ naming v)
    → written_out values ≡ Ok out → names_by naming out ≡ names_by naming values ++ names_by naming (made values)
out_names naming values out same e =
    ap (names_by naming) (written_is values out e) ∙ names_append naming (map (changed (name_in values)) values) (made values)
    ∙ ap (λ names. names ++ names_by naming (made values)) (changed_names naming (name_in values) same values)

-- a name that no stretch of time and no rule gives stays as it is
out_same : (naming : Naming) → ((name : List ℕ) (i j : InfoValue) → naming (zone name i) ≡ naming (zone name j))
    → ((i j : InfoValue) → naming (continuation i) ≡ naming (continuation j)) → ((r : RuleValue) → naming (rule r) ≡ None)
    → (values out : List LineValue) → written_out values ≡ Ok out → names_by naming out ≡ names_by naming values
unfolding made
out_same naming of_zone of_line none values out e =
    out_names naming values out (changed_same naming of_zone of_line (name_in values)) e
    ∙ ap (λ names. names_by naming values ++ names) (no_made_names naming none values (pairs_of values))
    ∙ append-nil (names_by naming values)

-- it has the zones and the links that it had, and its rulesets before those that are made
pub out_zones : (values out : List LineValue) → written_out values ≡ Ok out → names_by zone_name out ≡ names_by zone_name values
out_zones = out_same zone_name (λ name i j. refl) (λ i j. refl) (λ r. refl)

pub out_links : (values out : List LineValue) → written_out values ≡ Ok out → names_by new_name out ≡ names_by new_name values
out_links = out_same new_name (λ name i j. refl) (λ i j. refl) (λ r. refl)

pub out_rules : (values out : List LineValue) → written_out values ≡ Ok out
    → names_by ruleset_name out ≡ names_by ruleset_name values ++ names_by ruleset_name (made values)
out_rules values out e = out_names ruleset_name values out (changed_same ruleset_name (λ name i j. refl) (λ i j. refl) (name_in values)) e
