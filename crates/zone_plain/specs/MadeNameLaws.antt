-- The names of the rulesets that are made are no names of the source, and no two are one.
use Rattle.std.proofs.{Common.{◌≡◌, ℕ, ◌+◌, ◌<◌, ◌≤◌, ◌^◌, ◌%◌, Bool, true, false, cond, List, [], ◌∷◌, ◌++◌, map, get_or, drop, nat_lt, ◌-◌, refl, ap, arith}, lemmas.Bool.{or_right}, lemmas.Bool.Decides.{nat_tests}, lemmas.List.{append_cancel_left}}
use Rattle.std.proofs.lemmas.Fmt.{decimal_injective, decimal_is_IsNumeral}
use Rattle.std.specs.{Prelude.{◌||◌, decimal, bytes_eq}, Char.{digit_value}, Str.Parse.{AllDigits}}
use Rattle.zone_table.specs.Values.{LineValue, rule}
use Rattle.zone_plain_lines.specs.{MarkLaws.{no_mark}, Renamed.{has_name, mark_of}}
use Rattle.zone_plain.specs.{MadeNames.{letter, made_name}, Made.{rules_named}}

-- no rule of the source has a name that isn't one of the source
none_named : (values : List LineValue) (name : List ℕ) → (has_name values name ≡ true → ⊥) → rules_named values name ≡ []
unfolding rules_named
none_named [] name new = refl
none_named (rule r ∷ values) name new = by_test (bytes_eq r.name name) new (λ h. none_named values name h)
  where
    by_test : (b : Bool) → ((b || has_name values name) ≡ true → ⊥) → ((has_name values name ≡ true → ⊥) → rules_named values name ≡ [])
        → cond b (r ∷ rules_named values name) (rules_named values name) ≡ []
    by_test true new rest = absurd (new refl)
    by_test false new rest = rest new
none_named (_ ∷ values) name new = none_named values name (λ h. new (or_right _ _ h))

-- no rule of the source has the name of a ruleset that is made
pub name_is_new : (values : List LineValue) (number : ℕ) → rules_named values (made_name (mark_of values) number) ≡ []
unfolding made_name
name_is_new values number = none_named values (mark_of values ++ map letter (decimal number)) (no_mark values (map letter (decimal number)))

digit_is : (c d : ℕ) → digit_value c < 10 → digit_value d < 10 → 97 + c % 16 ≡ 97 + d % 16 → c ≡ d
digit_is c d p q e =
    let first = from_48 c p in
    let second = from_48 d q in
    omega (arith, first.0, first.1, second.0, second.1, e)
  where
    below : (c : ℕ) (b t : Bool) → nat_lt c 48 ≡ b → nat_lt c 58 ≡ t
        → cond b 36 (cond t (c - 48) (cond (nat_lt c 65) 36 (cond (nat_lt c 91) (c - 55) (cond (nat_lt c 97) 36 (cond (nat_lt c 123) (c - 87) 36))))) < 10
        → (48 ≤ c) × (c < 58)
    below c true t x y h = absurd (omega (arith, h))
    below c false true x y h = (grind (arith, nat_tests), grind (arith, nat_tests))
    below c false false x y h = grind (arith, nat_tests)

    from_48 : (c : ℕ) → digit_value c < 10 → (48 ≤ c) × (c < 58)
    from_48 c h = below c (nat_lt c 48) (nat_lt c 58) refl refl h

letters_same : (xs ys : List ℕ) → AllDigits 10 xs → AllDigits 10 ys → map letter xs ≡ map letter ys → xs ≡ ys
letters_same [] [] p q e = refl
letters_same (x ∷ xs) (y ∷ ys) p q e =
    let first = digit_is x y p.0 q.0 (ap (λ l. get_or l 0 0) e) in
    let rest = letters_same xs ys p.1 q.1 (ap (drop 1) e) in
    (λ i. first i ∷ rest i)
letters_same _ _ p q e = absurd (cc)

-- two numbers of 64 bits give two names
pub one_name : (mark : List ℕ) (m n : ℕ) → m < 2 ^ 64 → n < 2 ^ 64 → made_name mark m ≡ made_name mark n → m ≡ n
unfolding made_name
one_name mark m n p q e =
    let letters = append_cancel_left mark (map letter (decimal m)) (map letter (decimal n)) e in
    decimal_injective m n p q
    (letters_same (decimal m) (decimal n) (decimal_is_IsNumeral m p).0.1 (decimal_is_IsNumeral n q).0.1 letters)
