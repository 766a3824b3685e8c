-- The names of rulesets in the plain form: those of a source stay where RULES can say them, no two become one, and RULES can say all.
use Rattle.std.proofs.{Common.{◌≡◌, ℕ, zero, suc, ◌+◌, ◌/◌, ◌%◌, ◌<◌, Bool, true, false, cond, List, [], ◌∷◌, ◌++◌, length, map, nat_lt, get_or, drop, Ok, All, refl, sym, ap, ◌∙◌, arith}, Math.Bool.{or_assoc}}
use Rattle.std.proofs.lemmas.{Bool.{and_parts, and_from, or_right, both_ways}, Bool.Decides.{nat_tests}, List.{append_cancel_left}}
use Rattle.std.specs.{Prelude.{◌||◌, flat_map, nat_eq}, Char.{is_ascii_alphabetic}}
use Rattle.zone_line.specs.Fields.{is_ruleset_name}
use Rattle.zone_plain_lines.specs.{Columns.{ruleset_name}, Marks.{tails, rarer, ending_within}, MarkLaws.{no_mark}, Names.{is_letter, letter, byte_text, said_name}, Renamed.{ruleset_of, has_name, mark_of}}
use Rattle.zone_table.specs.Values.{LineValue}

-- what stands for a byte, by whether it is a letter
abbrev text_by : Bool → ℕ → List ℕ
text_by b x = cond b (x ∷ []) (45 ∷ letter (x / 16) ∷ letter (x % 16) ∷ [])

-- what stands for a name that doesn't stay
abbrev marked : List ℕ → List ℕ → List ℕ
marked mark name = mark ++ 45 ∷ flat_map byte_text name

pub stays_so : (mark name : List ℕ) → is_ruleset_name name ≡ true → said_name mark name ≡ name
unfolding said_name
stays_so mark name e = ap (λ b. cond b name (marked mark name)) e

no_hyphen : (x : ℕ) → is_letter x ≡ true → x ≡ 45 → ⊥
no_hyphen x p e = both_ways (is_letter 45) refl (ap is_letter (sym e) ∙ p)

number_is : (m n : ℕ) → 97 + m / 16 ≡ 97 + n / 16 → 97 + m % 16 ≡ 97 + n % 16 → m ≡ n
number_is m n high low = omega (arith, high, low)

-- what stands for bytes tells them
bytes_same : (xs ys : List ℕ) → flat_map byte_text xs ≡ flat_map byte_text ys → xs ≡ ys
bytes_same [] [] e = refl
bytes_same [] (y ∷ ys) e = by_test (is_letter y) e
  where
    by_test : (b : Bool) → [] ≡ text_by b y ++ flat_map byte_text ys → [] ≡ y ∷ ys
    by_test true e = absurd (cc)
    by_test false e = absurd (cc)
bytes_same (x ∷ xs) [] e = by_test (is_letter x) e
  where
    by_test : (b : Bool) → text_by b x ++ flat_map byte_text xs ≡ [] → x ∷ xs ≡ []
    by_test true e = absurd (cc)
    by_test false e = absurd (cc)
bytes_same (x ∷ xs) (y ∷ ys) e = by_tests (is_letter x) (is_letter y) refl refl e (λ e. bytes_same xs ys e)
  where
    by_tests : (s t : Bool) → is_letter x ≡ s → is_letter y ≡ t → text_by s x ++ flat_map byte_text xs ≡ text_by t y ++ flat_map byte_text ys
        → (flat_map byte_text xs ≡ flat_map byte_text ys → xs ≡ ys) → x ∷ xs ≡ y ∷ ys
    by_tests true true p q e rest =
        let first = ap (λ l. get_or l 0 0) e in
        let others = rest (ap (drop 1) e) in
        (λ i. first i ∷ others i)
    by_tests true false p q e rest = absurd (no_hyphen x p (ap (λ l. get_or l 0 0) e))
    by_tests false true p q e rest = absurd (no_hyphen y q (sym (ap (λ l. get_or l 0 0) e)))
    by_tests false false p q e rest =
        let first = number_is x y (ap (λ l. get_or l 1 0) e) (ap (λ l. get_or l 2 0) e) in
        let others = rest (ap (drop 3) e) in
        (λ i. first i ∷ others i)

marked_new : (values : List LineValue) (name other : List ℕ) → has_name values other ≡ true → marked (mark_of values) name ≡ other → ⊥
marked_new values name other among e = no_mark values (45 ∷ flat_map byte_text name) (ap (has_name values) e ∙ among)

-- a name that stands for another is none of the source
pub is_new : (values : List LineValue) (name other : List ℕ) → is_ruleset_name name ≡ false → has_name values other ≡ true
    → said_name (mark_of values) name ≡ other → ⊥
unfolding said_name
is_new values name other unsaid among e =
    marked_new values name other among (sym (ap (λ b. cond b name (marked (mark_of values) name)) unsaid) ∙ e)

-- no two names of a source become one
pub one_name : (values : List LineValue) (a b : List ℕ) → has_name values a ≡ true → has_name values b ≡ true
    → said_name (mark_of values) a ≡ said_name (mark_of values) b → a ≡ b
unfolding said_name
one_name values a b p q e = by_tests (is_ruleset_name a) (is_ruleset_name b) e
  where
    by_tests : (s t : Bool) → cond s a (marked (mark_of values) a) ≡ cond t b (marked (mark_of values) b) → a ≡ b
    by_tests true true e = e
    by_tests true false e = absurd (marked_new values b a p (sym e))
    by_tests false true e = absurd (marked_new values a b q e)
    by_tests false false e = bytes_same a b (ap (drop 1) (append_cancel_left (mark_of values) (45 ∷ flat_map byte_text a) (45 ∷ flat_map byte_text b) e))

few_bits : (x : ℕ) → x < 16 → is_ascii_alphabetic (97 + x) ≡ true
few_bits x few = grind (arith, nat_tests)

-- a letter from a to p is one of those that RULES says
bits_said : (x : ℕ) → x < 16 → is_ruleset_name (letter x ∷ []) ≡ true
bits_said x few = and_from _ true (or_right (nat_eq (97 + x) 45 || nat_eq (97 + x) 95) (is_ascii_alphabetic (97 + x)) (few_bits x few)) refl

-- RULES can say what stands for bytes
bytes_said : (name : List ℕ) → All (λ byte. byte < 256) name → is_ruleset_name (flat_map byte_text name) ≡ true
bytes_said [] bytes = refl
bytes_said (x ∷ xs) bytes = by_test (is_letter x) refl (bytes_said xs (λ k d inside. bytes (suc k) d (omega (arith, inside))))
  where
    first : x < 256
    first = bytes zero 0 (omega arith)

    hyphen_or : (a b c : Bool) → (b || c) ≡ true → ((a || b) || c) ≡ true
    hyphen_or a b c p = or_assoc a b c ∙ or_right a (b || c) p

    by_test : (b : Bool) → is_letter x ≡ b → is_ruleset_name (flat_map byte_text xs) ≡ true → is_ruleset_name (text_by b x ++ flat_map byte_text xs) ≡ true
    by_test true p rest = and_from _ _ (hyphen_or (nat_eq x 45) (nat_eq x 95) (is_ascii_alphabetic x) p) rest
    by_test false p rest =
        let high = (and_parts _ true (bits_said (x / 16) (omega (arith, first)))).0 in
        let low = (and_parts _ true (bits_said (x % 16) (omega arith))).0 in
        and_from _ _ high (and_from _ _ low rest)

rarer_said : (names : List (List ℕ)) (rest : List ℕ) → is_ruleset_name rest ≡ true → is_ruleset_name (rarer names ∷ rest) ≡ true
rarer_said names rest e = by_test (nat_lt (length (tails 97 names)) (length (tails 95 names)))
  where
    by_test : (b : Bool) → is_ruleset_name (cond b 97 95 ∷ rest) ≡ true
    by_test true = e
    by_test false = e

-- RULES can say a mark before what it can say
ending_said : (count : ℕ) (names : List (List ℕ)) (rest : List ℕ) → is_ruleset_name rest ≡ true → is_ruleset_name (ending_within count names ++ rest) ≡ true
unfolding ending_within
ending_said (suc count) (name ∷ names) rest e =
    rarer_said (name ∷ names) (ending_within count (tails (rarer (name ∷ names)) (name ∷ names)) ++ rest)
    (ending_said count (tails (rarer (name ∷ names)) (name ∷ names)) rest e)
ending_said _ _ rest e = e

mark_said : (values : List LineValue) (rest : List ℕ) → is_ruleset_name rest ≡ true → is_ruleset_name (mark_of values ++ rest) ≡ true
unfolding mark_of
mark_said values rest e =
    let behind = tails 95 (map ruleset_of values) in
    ending_said (length behind) behind rest e

-- RULES can say the name of any bytes
pub can_be_said : (values : List LineValue) (name : List ℕ) → All (λ byte. byte < 256) name → is_ruleset_name (said_name (mark_of values) name) ≡ true
unfolding said_name
can_be_said values name bytes = by_test (is_ruleset_name name) refl
  where
    by_test : (b : Bool) → is_ruleset_name name ≡ b → is_ruleset_name (cond b name (marked (mark_of values) name)) ≡ true
    by_test true e = e
    by_test false e = mark_said values (45 ∷ flat_map byte_text name) (bytes_said name bytes)

-- a marked name is read as a name
mark_read : (values : List LineValue) (rest : List ℕ) → ruleset_name (mark_of values ++ rest) ≡ Ok (mark_of values ++ rest)
unfolding ruleset_name mark_of
mark_read values rest = refl

-- a name is read as a name again
pub read_again : (values : List LineValue) (name : List ℕ) → ruleset_name name ≡ Ok name
    → ruleset_name (said_name (mark_of values) name) ≡ Ok (said_name (mark_of values) name)
unfolding said_name
read_again values name e = by_test (is_ruleset_name name)
  where
    by_test : (b : Bool) → ruleset_name (cond b name (marked (mark_of values) name)) ≡ Ok (cond b name (marked (mark_of values) name))
    by_test true = e
    by_test false = mark_read values (45 ∷ flat_map byte_text name)
