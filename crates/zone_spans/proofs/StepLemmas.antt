-- What the kept entries in place are, by the treatment of the next one.
use Rattle.std.proofs.{lemmas.List.Elements.{All-set}, Common.{All, set, ◌≡◌, ℕ, zero, suc, ◌+◌, ◌<◌, ◌≤◌, true, false, cond, List, [], ◌∷◌, ◌++◌, length, take, drop, reverse, get_or, refl, sym, ap, ◌∙◌, arith, take-suc, drop-cons, pos}}
use Rattle.std.proofs.lemmas.List.{reverse-append, reverse-reverse, get_or_default, drop_all}
use Rattle.std.specs.List.{swap}
use Rattle.zone_spans.specs.{Entries.{Entry}, Collapse.{is_same_span, is_no_later, kept_with, kept_of}, Places.{IsPutAt, IsRespanned, IsMoved, IsStep}}

-- the latest of the first n
latest : (xs : List Entry) (n p : ℕ) (d : Entry) → n ≡ p + 1 → p < length xs → reverse (take n xs) ≡ get_or xs p d ∷ reverse (take p xs)
latest xs n p d e l =
    let front : take (suc p) xs ≡ take p xs ++ get_or xs p d ∷ [] = grind (arith, take-suc) in
    let at : n ≡ suc p = omega arith in
    ap (λ k. reverse (take k xs)) at ∙ ap reverse front ∙ reverse-append (take p xs) (get_or xs p d ∷ [])

put_latest : (xs ys : List Entry) (n p i : ℕ) (e : Entry) → n ≡ p + 1 → IsPutAt xs ys p i e → reverse (take n ys) ≡ e ∷ reverse (take p xs)
put_latest xs ys n p i e at put = ap (λ k. reverse (take k ys)) at ∙ ap reverse put.front ∙ reverse-append (take p xs) (e ∷ [])

-- the kept list with its latest two written out
pub two_latest : (xs : List Entry) (n p q : ℕ) (d : Entry) → n ≡ p + 1 → p ≡ q + 1 → p < length xs
    → reverse (take n xs) ≡ get_or xs p d ∷ get_or xs q d ∷ reverse (take q xs)
two_latest xs n p q d e f l = latest xs n p d e l ∙ ap (λ ks. get_or xs p d ∷ ks) (latest xs p q d f (omega arith))

respans : (e k j : Entry) (ks : List Entry) → is_no_later e k j ≡ true → kept_with (k ∷ j ∷ ks) e ≡ (k.0, e.1) ∷ j ∷ ks
unfolding kept_with
respans e k j ks h = ap (λ b. cond b ((k.0, e.1) ∷ j ∷ ks) (cond (is_same_span e.1 k.1) (k ∷ j ∷ ks) (e ∷ k ∷ j ∷ ks))) h

drops : (e k : Entry) (ks : List Entry) → is_same_span e.1 k.1 ≡ true
    → ((j : Entry) (js : List Entry) → ks ≡ j ∷ js → is_no_later e k j ≡ false) → kept_with (k ∷ ks) e ≡ k ∷ ks
unfolding kept_with
drops e k [] h f = ap (λ b. cond b (k ∷ []) (e ∷ k ∷ [])) h
drops e k (j ∷ ks) h f = λ i. cond (f j ks refl i) ((k.0, e.1) ∷ j ∷ ks) (cond (h i) (k ∷ j ∷ ks) (e ∷ k ∷ j ∷ ks))

keeps : (e k : Entry) (ks : List Entry) → is_same_span e.1 k.1 ≡ false
    → ((j : Entry) (js : List Entry) → ks ≡ j ∷ js → is_no_later e k j ≡ false) → kept_with (k ∷ ks) e ≡ e ∷ k ∷ ks
unfolding kept_with
keeps e k [] h f = ap (λ b. cond b (k ∷ []) (e ∷ k ∷ [])) h
keeps e k (j ∷ ks) h f = λ i. cond (f j ks refl i) ((k.0, e.1) ∷ j ∷ ks) (cond (h i) (k ∷ j ∷ ks) (e ∷ k ∷ j ∷ ks))

-- z is any entry
pub respan_step : (xs ys : List Entry) (n p q i : ℕ) (z : Entry) → n ≡ p + 1 → p ≡ q + 1 → n ≤ i → i < length xs
    → ((d : Entry) → is_no_later (get_or xs i d) (get_or xs p d) (get_or xs q d) ≡ true) → IsRespanned xs ys p i → IsStep xs ys n i n
respan_step xs ys n p q i z e f le l late put = record {
  len = (put z).len;
  front = λ d.
      put_latest xs ys n p i _ e (put d)
      ∙ ap (λ ks. ((get_or xs p d).0, (get_or xs i d).1) ∷ ks) (latest xs p q d f (omega (arith, le, l)))
      ∙ sym (respans (get_or xs i d) (get_or xs p d) (get_or xs q d) (reverse (take q xs)) (late d))
      ∙ ap (λ ks. kept_with ks (get_or xs i d)) (sym (two_latest xs n p q d e f (omega (arith, le, l))));
  back = (put z).back;
}

-- where another stands before the latest
next_latest : (xs : List Entry) (p : ℕ) (e k j d : Entry) (js : List Entry) → p ≤ length xs → reverse (take p xs) ≡ j ∷ js
    → ((q : ℕ) → p ≡ q + 1 → is_no_later e k (get_or xs q d) ≡ false) → is_no_later e k j ≡ false
next_latest xs zero e k j d js l h f = cc
next_latest xs (suc q) e k j d js l h f =
    let is : get_or xs q d ≡ j = let two = latest xs (suc q) q d (omega arith) (omega (arith, l)) in cc in
    ap (is_no_later e k) (sym is) ∙ f q (omega arith)

pub drop_step : (xs : List Entry) (n p i : ℕ) → n ≡ p + 1 → n ≤ i → i < length xs
    → ((d : Entry) → is_same_span (get_or xs i d).1 (get_or xs p d).1 ≡ true)
    → ((q : ℕ) (d : Entry) → p ≡ q + 1 → is_no_later (get_or xs i d) (get_or xs p d) (get_or xs q d) ≡ false) → IsStep xs xs n i n
drop_step xs n p i e le l same late = record {
  len = refl;
  front = λ d.
      let is = latest xs n p d e (omega (arith, le, l)) in
      is
      ∙ sym (drops (get_or xs i d) (get_or xs p d) (reverse (take p xs)) (same d)
      (λ j js h. next_latest xs p (get_or xs i d) (get_or xs p d) j d js (omega (arith, le, l)) h (λ q f. late q d f)))
      ∙ ap (λ ks. kept_with ks (get_or xs i d)) (sym is);
  back = refl;
}

kept_more : (xs : List Entry) (n i : ℕ) (d : Entry) → n ≤ i → i < length xs
    → ((p : ℕ) → n ≡ p + 1 → is_same_span (get_or xs i d).1 (get_or xs p d).1 ≡ false)
    → ((p q : ℕ) → n ≡ p + 1 → p ≡ q + 1 → is_no_later (get_or xs i d) (get_or xs p d) (get_or xs q d) ≡ false)
    → kept_with (reverse (take n xs)) (get_or xs i d) ≡ get_or xs i d ∷ reverse (take n xs)
unfolding kept_with
kept_more xs zero i d le l same late = refl
kept_more xs (suc p) i d le l same late =
    let is = latest xs (suc p) p d (omega arith) (omega (arith, le, l)) in
    let at : suc p ≡ p + 1 = omega arith in
    ap (λ ks. kept_with ks (get_or xs i d)) is
    ∙ keeps (get_or xs i d) (get_or xs p d) (reverse (take p xs)) (same p at)
    (λ j js h. next_latest xs p (get_or xs i d) (get_or xs p d) j d js (omega (arith, le, l)) h (λ q f. late p q at f))
    ∙ ap (λ ks. get_or xs i d ∷ ks) (sym is)

pub keep_step : (xs ys : List Entry) (n i : ℕ) (z : Entry) → n ≤ i → i < length xs
    → ((p : ℕ) (d : Entry) → n ≡ p + 1 → is_same_span (get_or xs i d).1 (get_or xs p d).1 ≡ false)
    → ((p q : ℕ) (d : Entry) → n ≡ p + 1 → p ≡ q + 1 → is_no_later (get_or xs i d) (get_or xs p d) (get_or xs q d) ≡ false)
    → IsMoved xs ys n i → IsStep xs ys n i (n + 1)
keep_step xs ys n i z le l same late put = record {
  len = (put z).len;
  front = λ d.
      put_latest xs ys (n + 1) n i _ refl (put d)
      ∙ sym (kept_more xs n i d le l (λ p. same p d) (λ p q. late p q d));
  back = (put z).back;
}

-- what was read at k, with any default
pub read_at : (xs : List Entry) (k : ℕ) (x d : Entry) → k < length xs → x ≡ get_or xs k x → get_or xs k d ≡ x
read_at xs k x d l h = get_or_default xs k d x l ∙ sym h

pub zero_entry : Entry
zero_entry = (pos 0, record { utc_offset = pos 0; dst_offset = pos 0; name = [] })

-- one entry further
pub kept_more_of : (xs ys : List Entry) (kept now i : ℕ) → i < length xs → IsStep xs ys kept i now
    → kept_of (reverse (take now ys)) (drop (i + 1) ys) ≡ kept_of (reverse (take kept xs)) (drop i xs)
unfolding kept_of
kept_more_of xs ys kept now i l s =
    let d = zero_entry in
    let rest : drop i xs ≡ get_or xs i d ∷ drop (i + 1) xs = grind (arith, drop-cons) in
    (λ t. kept_of (s.front d t) (s.back t))
    ∙ ap (kept_of (reverse (take kept xs))) (sym rest)

pub kept_all : (xs : List Entry) (n : ℕ) (ks : List Entry) → kept_of (reverse (take n xs)) (drop (length xs) xs) ≡ ks
    → take n xs ≡ reverse ks
unfolding kept_of
kept_all xs n ks h =
    let done : drop (length xs) xs ≡ [] = drop_all (length xs) xs (omega arith) in
    sym (reverse-reverse (take n xs)) ∙ ap reverse (ap (kept_of (reverse (take n xs))) (sym done) ∙ h)

-- what holds of each entry holds of each where two are in each other's place
pub all_swapped : (P : Entry → Type 0) (xs : List Entry) (i j : ℕ) → i < length xs → j < length xs → All P xs → All P (swap xs i j)
all_swapped P [] i j l m h = h
all_swapped P (d ∷ ys) i j l m h =
    All-set P (set (d ∷ ys) i (get_or (d ∷ ys) j d)) j (get_or (d ∷ ys) i d) (h i d l)
    (All-set P (d ∷ ys) i (get_or (d ∷ ys) j d) (h j d m) h)
