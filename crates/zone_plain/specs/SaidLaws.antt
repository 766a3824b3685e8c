-- What is written out of lines that can be said can be said.
use Rattle.std.proofs.{Common.{◌≡◌, ℕ, suc, Bool, true, false, cond, not, nat_lt, List, [], ◌∷◌, ◌++◌, All, map, Option, Some, None, IfOk, refl, rules}, lemmas.Bool.{and_parts}}
use Rattle.std.proofs.lemmas.List.Elements.{All-nil, All-cons, All-head, All-tail, All-append, All-push}
use Rattle.std.specs.List.{list_any, list_all}
use Rattle.zone_table.specs.Values.{RuleValue, LineValue, rule}
use Rattle.zone_outside.specs.Limit.{text_limit}
use Rattle.zone_plain_lines.specs.declared.cause.PlainCause.TheVariants as cause
use Rattle.zone_plain_lines.specs.{LineFaults.{Refusal, at, bad_line, too_long}, Said.{is_said}}
use Rattle.zone_plain.specs.{OffsetTexts.{has_text}, Pairs.{Pair, Asked, nothing, total, under, asked, is_same, joined_by, pairs_from, pairs_of}}
use Rattle.zone_plain.specs.{Made.{total_of, made_rule, rules_named, rules_for, is_rule_said, are_rules_said, changed_by, changed, is_changed_said, name_in, made_for, made}, WrittenOut.{made_size, refused_from, written_unless, written_out}}

abbrev IsSaid : LineValue → Type 0
IsSaid v = is_said v ≡ true

-- the rules that are made for a pair of a source are said
abbrev AreMadeSaid : List LineValue → Pair → Type 0
AreMadeSaid all pair = are_rules_said all (name_in all pair) pair ≡ true

-- the first line is said, and no later one is unsaid
record Passes (all : List LineValue) (n : ℕ) (pairs : List Pair) (v : LineValue) (values : List LineValue) : Type 0 where
  pub here : is_changed_said all (name_in all) (asked v) v ≡ true
  pub on : refused_from text_limit all (suc n) (joined_by (asked v) pairs) values ≡ None

passes : (all : List LineValue) (n : ℕ) (pairs : List Pair) (v : LineValue) (values : List LineValue)
    → refused_from text_limit all n pairs (v ∷ values) ≡ None → Passes all n pairs v values
unfolding refused_from
passes all n pairs v values h =
    by (is_changed_said all (name_in all) (asked v) v) (nat_lt text_limit (made_size all (joined_by (asked v) pairs))) refl h
  where
    by : (said long : Bool) → is_changed_said all (name_in all) (asked v) v ≡ said
        → cond (not said) (Some (bad_line (at n cause.Unsayable)))
        (cond long (Some too_long) (refused_from text_limit all (suc n) (joined_by (asked v) pairs) values)) ≡ None
        → Passes all n pairs v values
    by true false here on = record { here = here; on = on }
    by true true here h = search rules
    by false long here h = search rules

changed_by_said : (all : List LineValue) (a : Asked) (v : LineValue) → IsSaid v → is_changed_said all (name_in all) a v ≡ true
    → IsSaid (changed_by (name_in all) a v)
changed_by_said all nothing v said h = said
changed_by_said all (total parts t) v said h = (and_parts (has_text t) _ h).1
changed_by_said all (under parts pair) v said h = (and_parts (are_rules_said all (name_in all pair) pair) _ h).1

changed_said : (all : List LineValue) (n : ℕ) (pairs : List Pair) (values : List LineValue) → All IsSaid values
    → refused_from text_limit all n pairs values ≡ None → All IsSaid (map (changed (name_in all)) values)
changed_said all n pairs [] said none = All-nil IsSaid
changed_said all n pairs (v ∷ values) said none =
    let p = passes all n pairs v values none in
    All-cons IsSaid (changed (name_in all) v) (map (changed (name_in all)) values)
    (changed_by_said all (asked v) v (All-head IsSaid v values said) p.here)
    (changed_said all (suc n) (joined_by (asked v) pairs) values (All-tail IsSaid v values said) p.on)

joined_said : (all : List LineValue) (a : Asked) (v : LineValue) (pairs : List Pair) → is_changed_said all (name_in all) a v ≡ true
    → All (AreMadeSaid all) pairs → All (AreMadeSaid all) (joined_by a pairs)
joined_said all (under parts pair) v pairs h said = by (list_any (is_same pair) pairs)
  where
    by : (b : Bool) → All (AreMadeSaid all) (cond b pairs (pairs ++ pair ∷ []))
    by true = said
    by false = All-push (AreMadeSaid all) pairs pair said (and_parts (are_rules_said all (name_in all pair) pair) _ h).0
joined_said all _ v pairs h said = said

pairs_said : (all : List LineValue) (n : ℕ) (values : List LineValue) (pairs : List Pair) → refused_from text_limit all n pairs values ≡ None
    → All (AreMadeSaid all) pairs → All (AreMadeSaid all) (pairs_from pairs values)
unfolding pairs_from
pairs_said all n [] pairs none said = said
pairs_said all n (v ∷ values) pairs none said =
    let p = passes all n pairs v values none in
    pairs_said all (suc n) values (joined_by (asked v) pairs) p.on (joined_said all (asked v) v pairs p.here said)

rules_said : (name : List ℕ) (pair : Pair) (rules : List RuleValue) → list_all (is_rule_said name pair.offset) rules ≡ true
    → All IsSaid (map (λ r. rule (made_rule name pair.offset r)) rules)
rules_said name pair [] h = All-nil IsSaid
rules_said name pair (r ∷ others) h =
    let both = and_parts (is_rule_said name pair.offset r) _ h in
    All-cons IsSaid (rule (made_rule name pair.offset r)) (map (λ r. rule (made_rule name pair.offset r)) others)
    (and_parts (has_text (total_of pair.offset r)) _ both.0).1 (rules_said name pair others both.1)

made_for_said : (all : List LineValue) (pairs : List Pair) → All (AreMadeSaid all) pairs
    → All IsSaid (made_for all pairs)
made_for_said all [] said = All-nil IsSaid
made_for_said all (pair ∷ pairs) said =
    All-append IsSaid (rules_for all (name_in all pair) pair) (made_for all pairs)
    (rules_said (name_in all pair) pair (rules_named all pair.rules) (All-head (AreMadeSaid all) pair pairs said))
    (made_for_said all pairs (All-tail (AreMadeSaid all) pair pairs said))

-- where no line is refused, each rule that is made is said
pub made_said : (values : List LineValue) → refused_from text_limit values 1 [] values ≡ None → All IsSaid (made values)
unfolding made
made_said values none = made_for_said values (pairs_of values) (pairs_said values 1 values [] none (All-nil (AreMadeSaid values)))

-- of lines that are said each line that is written, and each rule that is made, is said
pub written_out_said : (values : List LineValue) → All IsSaid values → IfOk (written_out values) (All IsSaid)
unfolding written_out
written_out_said values said = by (refused_from text_limit values 1 [] values) refl
  where
    by : (o : Option Refusal) → refused_from text_limit values 1 [] values ≡ o → IfOk (written_unless values o) (All IsSaid)
    by (Some refusal) found = tt
    by None none = All-append IsSaid (map (changed (name_in values)) values) (made values) (changed_said values 1 [] values said none) (made_said values none)
