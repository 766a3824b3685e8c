-- Texts that are one edit apart, by their first bytes.
use Rattle.std.proofs.{Common.{◌≡◌, ℕ, zero, suc, ◌+◌, ◌-◌, ◌==◌, ◌≤◌, min, List, [], ◌∷◌, length, map, drop, take, Bool, ◌&&◌, ◌||◌, not, cond, true, false, refl, ap, sym, ◌∙◌, arith}, lemmas.Bool.{and_parts, and_from, ne_eqb}, lemmas.List.{take_rest}}
use Rattle.std.specs.{Char.{eq_ignore_ascii_case}, List.{list_any, common_prefix_len}}
use Rattle.zone_texts.{specs.{Edits.{any_same, is_one_edit, is_one_less, is_one_other, is_one_swap, swapped, taken_out}, Fronts.{are_swapped_in_front, is_edit_in_front}, Same.{same}}, proofs.SameLemmas.{byte_either, same_either, same_itself, same_through}}

shared : (b p q : Bool) → ((b && p) || (b && q)) ≡ (b && (p || q))
shared true p q = refl
shared false p q = refl

never : (b : Bool) → false ≡ (b && false)
never true = refl
never false = refl

implied : (p q : Bool) → (p ≡ true → q ≡ true) → (p || q) ≡ q
implied true q f = sym (f refl)
implied false q f = refl

-- a byte in front of each of some texts
any_behind : (x : ℕ) (y : ℕ) (ys : List ℕ) (texts : List (List ℕ)) → list_any (same (y ∷ ys)) (map (λ rest. x ∷ rest) texts) ≡ (eq_ignore_ascii_case y x && list_any (same ys) texts)
any_behind x y ys [] = never (eq_ignore_ascii_case y x)
any_behind x y ys (t ∷ ts) =
    ap (λ p. (eq_ignore_ascii_case y x && same ys t) || p) (any_behind x y ys ts) ∙ shared (eq_ignore_ascii_case y x) (same ys t) (list_any (same ys) ts)

none_behind : (x : ℕ) (texts : List (List ℕ)) → list_any (same []) (map (λ rest. x ∷ rest) texts) ≡ false
none_behind x [] = refl
none_behind x (t ∷ ts) = none_behind x ts

any_same_behind : (x y : ℕ) (ps qs : List (List ℕ)) → any_same (map (λ rest. x ∷ rest) ps) (map (λ rest. y ∷ rest) qs) ≡ (eq_ignore_ascii_case x y && any_same ps qs)
any_same_behind x y [] qs = never (eq_ignore_ascii_case x y)
any_same_behind x y (p ∷ ps) [] = never (eq_ignore_ascii_case x y)
any_same_behind x y (p ∷ ps) (q ∷ qs) =
    ap (λ b. (eq_ignore_ascii_case x y && same p q) || b) (any_same_behind x y ps qs) ∙ shared (eq_ignore_ascii_case x y) (same p q) (any_same ps qs)

-- the first bytes differ, or are the same
less_is : (x y : ℕ) (xs ys : List ℕ) (b : Bool) → eq_ignore_ascii_case y x ≡ b
    → is_one_less (x ∷ xs) (y ∷ ys) ≡ (same (y ∷ ys) xs || (b && is_one_less xs ys))
less_is x y xs ys b e = ap (λ p. same (y ∷ ys) xs || p) (any_behind x y ys (taken_out xs) ∙ ap (λ c. c && is_one_less xs ys) e)

other_is : (x y : ℕ) (xs ys : List ℕ) (b : Bool) → eq_ignore_ascii_case x y ≡ b → is_one_other (x ∷ xs) (y ∷ ys) ≡ (same xs ys || (b && is_one_other xs ys))
other_is x y xs ys b e = ap (λ p. same xs ys || p) (any_same_behind x y (taken_out xs) (taken_out ys) ∙ ap (λ c. c && is_one_other xs ys) e)

swap_is : (x z y : ℕ) (zs ys : List ℕ) (b : Bool) → eq_ignore_ascii_case y x ≡ b
    → is_one_swap (x ∷ z ∷ zs) (y ∷ ys) ≡ (same (y ∷ ys) (z ∷ x ∷ zs) || (b && is_one_swap (z ∷ zs) ys))
swap_is x z y zs ys b e = ap (λ p. same (y ∷ ys) (z ∷ x ∷ zs) || p) (any_behind x y ys (swapped (z ∷ zs)) ∙ ap (λ c. c && is_one_swap (z ∷ zs) ys) e)

-- one less by the first byte is one less behind it, where the first bytes are the same
less_behind : (x y : ℕ) (xs ys : List ℕ) → same (y ∷ ys) xs ≡ true → is_one_less xs ys ≡ true
less_behind x y [] ys e = cc
less_behind x y (z ∷ zs) ys e =
    let p = and_parts (eq_ignore_ascii_case y z) (same ys zs) e in
    ap (λ b. b || list_any (same ys) (map (λ rest. z ∷ rest) (taken_out zs))) p.1

less_step : (x y : ℕ) (xs ys : List ℕ) → eq_ignore_ascii_case y x ≡ true → is_one_less (x ∷ xs) (y ∷ ys) ≡ is_one_less xs ys
less_step x y xs ys e = less_is x y xs ys true e ∙ implied (same (y ∷ ys) xs) (is_one_less xs ys) (less_behind x y xs ys)

-- the first two swapped are no others, where the first bytes are the same
swap_same : (x z y : ℕ) (zs ys : List ℕ) → eq_ignore_ascii_case y x ≡ true → same (y ∷ ys) (z ∷ x ∷ zs) ≡ true → same (z ∷ zs) ys ≡ true
swap_same x z y zs [] e f = (and_parts (eq_ignore_ascii_case y z) false f).1
swap_same x z y zs (w ∷ ws) e f =
    let p = and_parts (eq_ignore_ascii_case y z) (same (w ∷ ws) (x ∷ zs)) f in
    let q = and_parts (eq_ignore_ascii_case w x) (same ws zs) p.1 in
    let zy = same_either (z ∷ []) (y ∷ []) ∙ and_from (eq_ignore_ascii_case y z) true p.0 refl in
    let yx = and_from (eq_ignore_ascii_case y x) true e refl in
    let xw = same_either (x ∷ []) (w ∷ []) ∙ and_from (eq_ignore_ascii_case w x) true q.0 refl in
    let zw = and_parts (eq_ignore_ascii_case z w) true (same_through (z ∷ []) (x ∷ []) (w ∷ []) (same_through (z ∷ []) (y ∷ []) (x ∷ []) zy yx) xw) in
    and_from (eq_ignore_ascii_case z w) (same zs ws) zw.0 (same_either zs ws ∙ q.1)

swap_step : (x y : ℕ) (xs ys : List ℕ) → eq_ignore_ascii_case y x ≡ true → same xs ys ≡ false → is_one_swap (x ∷ xs) (y ∷ ys) ≡ is_one_swap xs ys
swap_step x y [] ys e f = refl
swap_step x y (z ∷ zs) ys e f =
    swap_is x z y zs ys true e ∙ implied (same (y ∷ ys) (z ∷ x ∷ zs)) (is_one_swap (z ∷ zs) ys) (λ g. cc (sym f ∙ swap_same x z y zs ys e g))

abbrev edits : Bool → Bool → Bool → Bool → Bool → Bool
edits s l m o w = not s && (l || m || o || w)

step : (x y : ℕ) (xs ys : List ℕ) → eq_ignore_ascii_case x y ≡ true → is_one_edit (x ∷ xs) (y ∷ ys) ≡ is_one_edit xs ys
unfolding is_one_edit
step x y xs ys e = by (same xs ys) refl
  where
    f : eq_ignore_ascii_case y x ≡ true
    f = byte_either y x ∙ e

    by : (s : Bool) → same xs ys ≡ s → is_one_edit (x ∷ xs) (y ∷ ys) ≡ is_one_edit xs ys
    by true g =
        (λ i. edits (e i && g i) (is_one_less (x ∷ xs) (y ∷ ys)) (is_one_less (y ∷ ys) (x ∷ xs)) (is_one_other (x ∷ xs) (y ∷ ys)) (is_one_swap (x ∷ xs) (y ∷ ys)))
        ∙ (λ i. edits (sym g i) (is_one_less xs ys) (is_one_less ys xs) (is_one_other xs ys) (is_one_swap xs ys))
    by false g =
        (λ i. edits (e i && same xs ys) (less_step x y xs ys f i) (less_step y x ys xs e i)
        ((other_is x y xs ys true e ∙ ap (λ b. b || is_one_other xs ys) g) i) (swap_step x y xs ys f g i))

or_false : (p : Bool) → (p || false) ≡ p
or_false true = refl
or_false false = refl

-- a swap of the first two, where the first bytes differ
swap_first : (x y : ℕ) (xs ys : List ℕ) → eq_ignore_ascii_case y x ≡ false → is_one_swap (x ∷ xs) (y ∷ ys) ≡ are_swapped_in_front (x ∷ xs) (y ∷ ys)
swap_first x y [] ys e = refl
swap_first x y (z ∷ zs) ys e = swap_is x z y zs ys false e ∙ or_false (same (y ∷ ys) (z ∷ x ∷ zs)) ∙ more ys
  where
    more : (vs : List ℕ) → same (y ∷ vs) (z ∷ x ∷ zs) ≡ are_swapped_in_front (x ∷ z ∷ zs) (y ∷ vs)
    more [] = sym (never (eq_ignore_ascii_case y z))
    more (v ∷ vs) = refl

in_front : (x y : ℕ) (xs ys : List ℕ) → eq_ignore_ascii_case x y ≡ false → is_one_edit (x ∷ xs) (y ∷ ys) ≡ is_edit_in_front (x ∷ xs) (y ∷ ys)
unfolding is_one_edit
in_front x y xs ys e =
    (λ i. edits (e i && same xs ys) ((less_is x y xs ys false f ∙ or_false (same (y ∷ ys) xs)) i) ((less_is y x ys xs false e ∙ or_false (same (x ∷ xs) ys)) i)
    ((other_is x y xs ys false e ∙ or_false (same xs ys)) i) (swap_first x y xs ys f i))
  where
    f : eq_ignore_ascii_case y x ≡ false
    f = byte_either y x ∙ e

not_one : (n : ℕ) → (suc (suc n) == 1) ≡ false
not_one n = ne_eqb (suc (suc n)) 1 (λ e. omega (arith, e))

-- an empty text
from_none : (ys : List ℕ) → is_one_edit [] ys ≡ is_edit_in_front [] ys
unfolding is_one_edit
from_none [] = refl
from_none (y ∷ []) = refl
from_none (y ∷ z ∷ zs) = ap (λ p. (p || false) || false) (none_behind y (taken_out (z ∷ zs))) ∙ sym (not_one (length zs))

to_none : (x : ℕ) (xs : List ℕ) → is_one_edit (x ∷ xs) [] ≡ is_edit_in_front (x ∷ xs) []
unfolding is_one_edit
to_none x [] = refl
to_none x (z ∷ zs) =
    (λ i. ((none_behind x (taken_out (z ∷ zs)) i || false) || false) || none_behind x (swapped (z ∷ zs)) i) ∙ sym (not_one (length zs))

one_more : (n : ℕ) → 1 + n ≡ suc n
one_more n = omega arith

-- behind what is the same in front
behind_first : (x y : ℕ) (xs ys : List ℕ) (n : ℕ) → n ≡ common_prefix_len eq_ignore_ascii_case (x ∷ xs) (y ∷ ys)
    → ((k : ℕ) → k ≡ common_prefix_len eq_ignore_ascii_case xs ys → is_edit_in_front (drop k xs) (drop k ys) ≡ is_one_edit xs ys)
    → is_edit_in_front (drop n (x ∷ xs)) (drop n (y ∷ ys)) ≡ is_one_edit (x ∷ xs) (y ∷ ys)
behind_first x y xs ys n e others = by (eq_ignore_ascii_case x y) refl
  where
    by : (b : Bool) → eq_ignore_ascii_case x y ≡ b → is_edit_in_front (drop n (x ∷ xs)) (drop n (y ∷ ys)) ≡ is_one_edit (x ∷ xs) (y ∷ ys)
    by true f =
        ap (λ k. is_edit_in_front (drop k (x ∷ xs)) (drop k (y ∷ ys))) (e ∙ ap (λ b. cond b (1 + common_prefix_len eq_ignore_ascii_case xs ys) 0) f)
        ∙ ap (λ k. is_edit_in_front (drop k (x ∷ xs)) (drop k (y ∷ ys))) (one_more (common_prefix_len eq_ignore_ascii_case xs ys))
        ∙ others (common_prefix_len eq_ignore_ascii_case xs ys) refl ∙ sym (step x y xs ys f)
    by false f =
        ap (λ k. is_edit_in_front (drop k (x ∷ xs)) (drop k (y ∷ ys))) (e ∙ ap (λ b. cond b (1 + common_prefix_len eq_ignore_ascii_case xs ys) 0) f)
        ∙ sym (in_front x y xs ys f)

edit_is : (a b : List ℕ) (n : ℕ) → n ≡ common_prefix_len eq_ignore_ascii_case a b → is_edit_in_front (drop n a) (drop n b) ≡ is_one_edit a b
edit_is [] ys n e = ap (λ k. is_edit_in_front (drop k []) (drop k ys)) e ∙ sym (from_none ys)
edit_is (x ∷ xs) [] n e = ap (λ k. is_edit_in_front (drop k (x ∷ xs)) (drop k [])) e ∙ sym (to_none x xs)
edit_is (x ∷ xs) (y ∷ ys) n e = behind_first x y xs ys n e (edit_is xs ys)

pub found_is : (a b : List ℕ) (n : ℕ) → n ≡ common_prefix_len eq_ignore_ascii_case a b
    → is_edit_in_front (take (length a - n) (drop n a)) (take (length b - n) (drop n b)) ≡ is_one_edit a b
found_is a b n e = (λ i. is_edit_in_front (take_rest a n i) (take_rest b n i)) ∙ edit_is a b n e

-- at the end of one of two texts
pub ended : (a b : List ℕ) (n : ℕ) → min (length a) (length b) ≤ n → common_prefix_len eq_ignore_ascii_case (drop n a) (drop n b) ≡ 0
ended [] b zero l = refl
ended [] b (suc n) l = refl
ended (x ∷ xs) [] zero l = refl
ended (x ∷ xs) [] (suc n) l = nothing (drop n xs)
  where
    nothing : (a : List ℕ) → common_prefix_len eq_ignore_ascii_case a [] ≡ 0
    nothing [] = refl
    nothing (x ∷ xs) = refl
ended (x ∷ xs) (y ∷ ys) zero l = omega arith
ended (x ∷ xs) (y ∷ ys) (suc n) l = ended xs ys n (omega arith)

-- both ways
any_same_either : (ps qs : List (List ℕ)) → any_same ps qs ≡ any_same qs ps
any_same_either [] [] = refl
any_same_either [] (q ∷ qs) = refl
any_same_either (p ∷ ps) [] = refl
any_same_either (p ∷ ps) (q ∷ qs) = λ i. same_either p q i || any_same_either ps qs i

-- no two neighbours are swapped in one byte
one_none : (y : ℕ) (b : List ℕ) → list_any (same (y ∷ [])) (swapped b) ≡ false
one_none y [] = refl
one_none y (x ∷ []) = refl
one_none y (x ∷ z ∷ zs) =
    swap_is x z y zs [] _ refl ∙ (λ i. sym (never (eq_ignore_ascii_case y z)) i || (eq_ignore_ascii_case y x && nil_none (z ∷ zs) i)) ∙ sym (never (eq_ignore_ascii_case y x))
  where
    nil_none : (b : List ℕ) → list_any (same []) (swapped b) ≡ false
    nil_none [] = refl
    nil_none (x ∷ []) = refl
    nil_none (x ∷ z ∷ zs) = none_behind x (swapped (z ∷ zs))

crossed : (p q r : Bool) → (p && (q && r)) ≡ (q && (p && r))
crossed true true r = refl
crossed true false r = refl
crossed false true r = refl
crossed false false r = refl

swap_either : (a b : List ℕ) → is_one_swap a b ≡ is_one_swap b a
swap_either [] [] = refl
swap_either [] (y ∷ []) = refl
swap_either [] (y ∷ w ∷ ws) = sym (none_behind y (swapped (w ∷ ws)))
swap_either (x ∷ []) b = sym (one_none x b)
swap_either (x ∷ z ∷ zs) [] = none_behind x (swapped (z ∷ zs))
swap_either (x ∷ z ∷ zs) (y ∷ []) = one_none y (x ∷ z ∷ zs)
swap_either (x ∷ z ∷ zs) (y ∷ w ∷ ws) =
    swap_is x z y zs (w ∷ ws) _ refl
    ∙ (λ i. (byte_either y z i && (byte_either w x i && same_either ws zs i)) || (byte_either y x i && swap_either (z ∷ zs) (w ∷ ws) i))
    ∙ ap (λ p. p || (eq_ignore_ascii_case x y && is_one_swap (w ∷ ws) (z ∷ zs))) (crossed (eq_ignore_ascii_case z y) (eq_ignore_ascii_case x w) (same zs ws))
    ∙ sym (swap_is y w x ws (z ∷ zs) _ refl)

turned : (s l m o w : Bool) → edits s l m o w ≡ edits s m l o w
turned s true true o w = refl
turned s true false o w = refl
turned s false true o w = refl
turned s false false o w = refl

pub either_way : (a b : List ℕ) → is_one_edit a b ≡ is_one_edit b a
unfolding is_one_edit
either_way a b =
    (λ i. edits (same_either a b i) (is_one_less a b) (is_one_less b a) (any_same_either (taken_out a) (taken_out b) i) (swap_either a b i))
    ∙ turned (same b a) (is_one_less a b) (is_one_less b a) (is_one_other b a) (is_one_swap b a)

pub not_itself : (a : List ℕ) → is_one_edit a a ≡ false
unfolding is_one_edit
not_itself a = ap (λ s. edits s (is_one_less a a) (is_one_less a a) (is_one_other a a) (is_one_swap a a)) (same_itself a)
