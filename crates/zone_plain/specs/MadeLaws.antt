-- Under `%z` a ruleset that is made has the rules of its ruleset, with the texts of their totals as letters.
use Rattle.std.proofs.{Common.{◌≡◌, ℕ, suc, ◌+◌, ◌<◌, ◌^◌, Bool, true, false, cond, not, List, [], ◌∷◌, ◌++◌, length, map, Ok, Some, None, refl, sym, ap, ◌∙◌, append-nil, arith}, Math.Bool.{or-false}, lemmas.Bool.{or_right}, lemmas.Grind.{flat_map-append}}
use Rattle.std.proofs.lemmas.Slice.Eq.{bytes_eq-Decides}
use Rattle.std.specs.Prelude.{◌||◌, flat_map, bytes_eq}
use Rattle.zone_outside.specs.Limit.{text_limit}
use Rattle.zone_table.specs.Values.{RuleValue, LineValue, zone, continuation, rule}
use Rattle.zone_plain_lines.specs.Renamed.{mark_of}
use Rattle.zone_plain.specs.{MadeNameLaws.{name_is_new, one_name}, PairLaws.{same_pair, pair_itself, among_more}, Pairs.{Pair, Asked, nothing, under, asked, asked_by, is_same, is_among, with_pair, joined_by, number_of, pairs_from, pairs_of}}
use Rattle.zone_plain.specs.{Made.{rules_named, made_rule, rules_for, changed_by, changed, name_in, made}, WrittenOut.{refused_from, written_unless, written_out}}

rules_append : (xs ys : List LineValue) (name : List ℕ) → rules_named (xs ++ ys) name ≡ rules_named xs name ++ rules_named ys name
unfolding rules_named
rules_append [] ys name = refl
rules_append (rule r ∷ xs) ys name = by_test (bytes_eq r.name name) (rules_append xs ys name)
  where
    by_test : (b : Bool) → rules_named (xs ++ ys) name ≡ rules_named xs name ++ rules_named ys name
        → cond b (r ∷ rules_named (xs ++ ys) name) (rules_named (xs ++ ys) name)
        ≡ cond b (r ∷ rules_named xs name) (rules_named xs name) ++ rules_named ys name
    by_test true e = ap (λ rs. r ∷ rs) e
    by_test false e = e
rules_append (_ ∷ xs) ys name = rules_append xs ys name

zone_stays : (name_of : Pair → List ℕ) (a : Asked) (z : List ℕ) (info : _) (values : List LineValue) (name : List ℕ)
    → rules_named (changed_by name_of a (zone z info) ∷ values) name ≡ rules_named values name
unfolding rules_named
zone_stays name_of nothing z info values name = refl
zone_stays name_of _ z info values name = refl

continuation_stays : (name_of : Pair → List ℕ) (a : Asked) (info : _) (values : List LineValue) (name : List ℕ)
    → rules_named (changed_by name_of a (continuation info) ∷ values) name ≡ rules_named values name
unfolding rules_named
continuation_stays name_of nothing info values name = refl
continuation_stays name_of _ info values name = refl

-- what becomes of the lines leaves the rules of the source
pub rules_stay : (name_of : Pair → List ℕ) (values : List LineValue) (name : List ℕ)
    → rules_named (map (changed name_of) values) name ≡ rules_named values name
unfolding rules_named
rules_stay name_of [] name = refl
rules_stay name_of (rule r ∷ values) name = ap (λ rs. cond (bytes_eq r.name name) (r ∷ rs) rs) (rules_stay name_of values name)
rules_stay name_of (zone z info ∷ values) name =
    zone_stays name_of (asked_by info) z info (map (changed name_of) values) name ∙ rules_stay name_of values name
rules_stay name_of (continuation info ∷ values) name =
    continuation_stays name_of (asked_by info) info (map (changed name_of) values) name ∙ rules_stay name_of values name
rules_stay name_of (_ ∷ values) name = rules_stay name_of values name

made_under : (rules : List RuleValue) (given name : List ℕ) (offset : _)
    → rules_named (map (λ r. rule (made_rule given offset r)) rules) name ≡ cond (bytes_eq given name) (map (made_rule given offset) rules) []
unfolding rules_named
made_under [] given name offset = by_test (bytes_eq given name)
  where
    by_test : (b : Bool) → [] ≡ cond b (map (made_rule given offset) []) []
    by_test true = refl
    by_test false = refl
made_under (r ∷ rules) given name offset = by_test (bytes_eq given name) (made_under rules given name offset)
  where
    by_test : (b : Bool) → rules_named (map (λ r. rule (made_rule given offset r)) rules) name ≡ cond b (map (made_rule given offset) rules) []
        → cond b (made_rule given offset r ∷ rules_named (map (λ r. rule (made_rule given offset r)) rules) name)
        (rules_named (map (λ r. rule (made_rule given offset r)) rules) name)
        ≡ cond b (map (made_rule given offset) (r ∷ rules)) []
    by_test true e = ap (λ rs. made_rule given offset r ∷ rs) e
    by_test false e = e

number_within : (pairs : List Pair) (pair : Pair) → number_of pairs pair < suc (length pairs)
number_within [] pair = omega arith
number_within (p ∷ pairs) pair = by_test (is_same pair p) (number_within pairs pair)
  where
    by_test : (b : Bool) → number_of pairs pair < suc (length pairs) → cond (not b) (1 + number_of pairs pair) 0 < suc (suc (length pairs))
    by_test true h = omega arith
    by_test false h = omega (arith, h)

-- one number, one pair
pub one_pair : (pairs : List Pair) (a b : Pair) → is_among a pairs ≡ true → is_among b pairs ≡ true → number_of pairs a ≡ number_of pairs b → a ≡ b
one_pair [] a b p q e = absurd (cc)
one_pair (x ∷ pairs) a b p q e = by_test (is_same a x) (is_same b x) refl refl p q e (λ p q e. one_pair pairs a b p q e)
  where
    by_test : (s t : Bool) → is_same a x ≡ s → is_same b x ≡ t → (s || is_among a pairs) ≡ true → (t || is_among b pairs) ≡ true
        → cond (not s) (1 + number_of pairs a) 0 ≡ cond (not t) (1 + number_of pairs b) 0
        → (is_among a pairs ≡ true → is_among b pairs ≡ true → number_of pairs a ≡ number_of pairs b → a ≡ b) → a ≡ b
    by_test true true s t p q e rest = same_pair a x s ∙ sym (same_pair b x t)
    by_test true false s t p q e rest = absurd (omega (arith, e))
    by_test false true s t p q e rest = absurd (omega (arith, e))
    by_test false false s t p q e rest = rest p q (omega (arith, e))

-- what a pair gives, of one pair alone
pick : {A : Type 0} → (Pair → List A) → Pair → Pair → List A
pick of pair other = cond (is_same pair other) (of other) []

-- it is picked once
picked_more : {A : Type 0} (of : Pair → List A) (pair more : Pair) (pairs : List Pair)
    → flat_map (pick of pair) pairs ≡ cond (is_among pair pairs) (of pair) []
    → flat_map (pick of pair) (with_pair pairs more) ≡ cond (is_among pair (with_pair pairs more)) (of pair) []
unfolding pick
picked_more of pair more pairs e = by_test (is_among more pairs) refl
  where
    apart : (b : Bool) → is_same pair more ≡ b → is_among more pairs ≡ false
        → flat_map (pick of pair) pairs ++ cond b (of more) [] ≡ cond (is_among pair pairs || b) (of pair) []
    apart true same is_no =
        let is = same_pair pair more same in
        let none : is_among pair pairs ≡ false = ap (λ p. is_among p pairs) is ∙ is_no in
        ap (λ xs. xs ++ of more) (e ∙ ap (λ b. cond b (of pair) []) none) ∙ ap of (sym is) ∙ ap (λ b. cond (b || true) (of pair) []) (sym none)
    apart false same is_no = append-nil _ ∙ e ∙ ap (λ b. cond b (of pair) []) (sym (or-false (is_among pair pairs)))

    by_test : (b : Bool) → is_among more pairs ≡ b
        → flat_map (pick of pair) (cond b pairs (pairs ++ more ∷ [])) ≡ cond (is_among pair (cond b pairs (pairs ++ more ∷ []))) (of pair) []
    by_test true k = e
    by_test false k =
        flat_map-append (pick of pair) pairs (more ∷ []) ∙ ap (λ xs. flat_map (pick of pair) pairs ++ xs) (append-nil (pick of pair more)) ∙ apart (is_same pair more) refl k
        ∙ ap (λ b. cond b (of pair) []) (sym (among_more pair more pairs))

picked_joined : {A : Type 0} (of : Pair → List A) (pair : Pair) (a : Asked) (pairs : List Pair)
    → flat_map (pick of pair) pairs ≡ cond (is_among pair pairs) (of pair) []
    → flat_map (pick of pair) (joined_by a pairs) ≡ cond (is_among pair (joined_by a pairs)) (of pair) []
picked_joined of pair (under parts more) pairs e = picked_more of pair more pairs e
picked_joined of pair _ pairs e = e

picked_all : {A : Type 0} (of : Pair → List A) (pair : Pair) (values : List LineValue) (pairs : List Pair)
    → flat_map (pick of pair) pairs ≡ cond (is_among pair pairs) (of pair) []
    → flat_map (pick of pair) (pairs_from pairs values) ≡ cond (is_among pair (pairs_from pairs values)) (of pair) []
unfolding pairs_from
picked_all of pair [] pairs e = e
picked_all of pair (v ∷ values) pairs e = picked_all of pair values (joined_by (asked v) pairs) (picked_joined of pair (asked v) pairs e)

flat_named : (f : Pair → List LineValue) (pairs : List Pair) (name : List ℕ)
    → rules_named (flat_map f pairs) name ≡ flat_map (λ pair. rules_named (f pair) name) pairs
unfolding rules_named
flat_named f [] name = refl
flat_named f (p ∷ pairs) name = rules_append (f p) (flat_map f pairs) name ∙ ap (λ rs. rules_named (f p) name ++ rs) (flat_named f pairs name)

flat_same : {A : Type 0} (f g : Pair → List A) (pairs : List Pair) → ((pair : Pair) → is_among pair pairs ≡ true → f pair ≡ g pair)
    → flat_map f pairs ≡ flat_map g pairs
flat_same f g [] e = refl
flat_same f g (p ∷ pairs) e =
    let rest = flat_same f g pairs (λ pair h. e pair (or_right (is_same pair p) (is_among pair pairs) h)) in
    let first = e p (ap (λ b. b || is_among p pairs) (pair_itself p)) in
    (λ i. first i ++ rest i)

-- two pairs have one name only where they are one
names_tell : (values : List LineValue) (pair other : Pair) → length (pairs_of values) < 2 ^ 64 → is_among pair (pairs_of values) ≡ true
    → is_among other (pairs_of values) ≡ true → bytes_eq (name_in values other) (name_in values pair) ≡ is_same pair other
names_tell values pair other few p q = by_test (is_same pair other) refl
  where
    same_name : name_in values other ≡ name_in values pair → is_same pair other ≡ true
    same_name e =
        let numbers = one_name (mark_of values) (number_of (pairs_of values) other) (number_of (pairs_of values) pair)
        (let within = number_within (pairs_of values) other in omega (arith, within, few))
        (let within = number_within (pairs_of values) pair in omega (arith, within, few)) e in
        ap (is_same pair) (one_pair (pairs_of values) other pair q p numbers) ∙ pair_itself pair

    apart : (b : Bool) → bytes_eq (name_in values other) (name_in values pair) ≡ b → is_same pair other ≡ false → b ≡ false
    apart false e is_no = refl
    apart true e is_no = sym (same_name ((bytes_eq-Decides (name_in values other) (name_in values pair)).0 e)) ∙ is_no

    by_test : (b : Bool) → is_same pair other ≡ b → bytes_eq (name_in values other) (name_in values pair) ≡ b
    by_test true e =
        (bytes_eq-Decides (name_in values other) (name_in values pair)).1 (ap (name_in values) (sym (same_pair pair other e)))
    by_test false e = apart (bytes_eq (name_in values other) (name_in values pair)) refl e

made_named : (values : List LineValue) (pair : Pair) → length (pairs_of values) < 2 ^ 64 → is_among pair (pairs_of values) ≡ true
    → rules_named (made values) (name_in values pair) ≡ map (made_rule (name_in values pair) pair.offset) (rules_named values pair.rules)
unfolding made pick
made_named values pair few among =
    flat_named (λ other. rules_for values (name_in values other) other) (pairs_of values) (name_in values pair)
    ∙ flat_same (λ other. rules_named (rules_for values (name_in values other) other) (name_in values pair)) (pick of pair) (pairs_of values)
    (λ other h. made_under (rules_named values other.rules) (name_in values other) (name_in values pair) other.offset
    ∙ ap (λ b. cond b (of other) []) (names_tell values pair other few among h))
    ∙ picked_all of pair values [] refl ∙ ap (λ b. cond b (of pair) []) among
  where
    of : Pair → List RuleValue
    of other = map (made_rule (name_in values other) other.offset) (rules_named values other.rules)

pub written_is : (values out : List LineValue) → written_out values ≡ Ok out → out ≡ map (changed (name_in values)) values ++ made values
unfolding written_out
written_is values out e = by_place (refused_from text_limit values 1 [] values) e
  where
    by_place : (o : _) → written_unless values o ≡ Ok out → out ≡ map (changed (name_in values)) values ++ made values
    by_place None e = cc
    by_place (Some refusal) e = absurd (cc)

-- where a source's lines are written out, the ruleset that is made for a pair has the rules of its ruleset in their order, each at the same
-- time with the same saving, and as letters the text of the pair's offset with that saving
pub made_rules : (values out : List LineValue) (pair : Pair) → written_out values ≡ Ok out → is_among pair (pairs_of values) ≡ true
    → length (pairs_of values) < 2 ^ 64
    → rules_named out (name_in values pair) ≡ map (made_rule (name_in values pair) pair.offset) (rules_named values pair.rules)
made_rules values out pair e among few =
    ap (λ vs. rules_named vs (name_in values pair)) (written_is values out e)
    ∙ rules_append (map (changed (name_in values)) values) (made values) (name_in values pair)
    ∙ (λ i. (rules_stay (name_in values) values (name_in values pair)
    ∙ name_is_new values (number_of (pairs_of values) pair)) i ++ made_named values pair few among i)
