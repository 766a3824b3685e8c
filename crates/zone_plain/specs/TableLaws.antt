-- The rulesets that a table has under the names that are made.
use Rattle.std.{proofs.Common.{◌≡◌, ℕ, ◌<◌, ◌^◌, ℤ, Bool, true, false, cond, List, [], ◌∷◌, ◌++◌, length, map, reverse, Ok, refl, sym, ap, ◌∙◌, append_assoc, append-nil}, specs.Prelude.{bytes_eq}, proofs.lemmas.List.{reverse-append}}
use Rattle.zone_table.specs.{Values.{RuleValue, LineValue, rule}, Joined.{rules_of}, Owned.{owned_rule}}
use Rattle.zone_plain.specs.{Made.{rules_named, made_rule, made_info, name_in}, MadeLaws.{made_rules}, MadeNameLaws.{name_is_new}, MadeNames.{made_name}, Pairs.{Pair, is_among, pairs_of}, WrittenOut.{written_out}}
use Rattle.zone_plain_lines.specs.Renamed.{mark_of}

table_append : (xs ys : List LineValue) (name : List ℕ) → rules_of (xs ++ ys) name ≡ rules_of ys name ++ rules_of xs name
table_append [] ys name = sym (append-nil (rules_of ys name))
table_append (rule r ∷ xs) ys name =
    ap (λ rs. rs ++ cond (bytes_eq r.name name) (owned_rule r ∷ []) []) (table_append xs ys name)
    ∙ append_assoc (rules_of ys name) (rules_of xs name) (cond (bytes_eq r.name name) (owned_rule r ∷ []) [])
table_append (_ ∷ xs) ys name = table_append xs ys name

-- a line before all others
table_on : (v : LineValue) (values : List LineValue) (name : List ℕ)
    → rules_of (reverse (v ∷ values)) name ≡ rules_of (v ∷ []) name ++ rules_of (reverse values) name
table_on v values name = ap (λ vs. rules_of vs name) (reverse-append (v ∷ []) values) ∙ table_append (reverse values) (v ∷ []) name

-- a table has the rules of that name
table_has : (values : List LineValue) (name : List ℕ) → rules_of (reverse values) name ≡ map owned_rule (rules_named values name)
unfolding rules_named
table_has [] name = refl
table_has (rule r ∷ values) name = table_on (rule r) values name ∙ by_test (bytes_eq r.name name) (table_has values name)
  where
    by_test : (b : Bool) → rules_of (reverse values) name ≡ map owned_rule (rules_named values name)
        → cond b (owned_rule r ∷ []) [] ++ rules_of (reverse values) name ≡ map owned_rule (cond b (r ∷ rules_named values name) (rules_named values name))
    by_test true rest = ap (λ rs. owned_rule r ∷ rs) rest
    by_test false rest = rest
table_has (v ∷ values) name = table_on v values name ∙ table_has values name

made_owned : (name : List ℕ) (offset : ℤ) (rules : List RuleValue)
    → map owned_rule (map (made_rule name offset) rules) ≡ map (made_info offset) (map owned_rule rules)
made_owned name offset [] = refl
made_owned name offset (r ∷ rules) = ap (λ rs. made_info offset (owned_rule r) ∷ rs) (made_owned name offset rules)

-- a table of the lines that are written has, under the name that is made for a pair, the ruleset of the pair with the texts of its totals
pub made_ruleset : (values out : List LineValue) (pair : Pair) → written_out values ≡ Ok out → is_among pair (pairs_of values) ≡ true
    → length (pairs_of values) < 2 ^ 64
    → rules_of (reverse out) (name_in values pair) ≡ map (made_info pair.offset) (rules_of (reverse values) pair.rules)
made_ruleset values out pair e among few =
    table_has out (name_in values pair) ∙ ap (map owned_rule) (made_rules values out pair e among few)
    ∙ made_owned (name_in values pair) pair.offset (rules_named values pair.rules)
    ∙ ap (map (made_info pair.offset)) (sym (table_has values pair.rules))

-- a table of the source has none under a name that is made
pub new_name : (values : List LineValue) (number : ℕ) → rules_of (reverse values) (made_name (mark_of values) number) ≡ []
new_name values number =
    table_has values (made_name (mark_of values) number) ∙ ap (map owned_rule) (name_is_new values number)
