-- Lemmas on what calls on a sink leave, one call after another.
use Rattle.std.{specs.Prelude.{◌≡◌, ℕ, zero, suc, ◌+◌, ◌-◌, ◌<◌, List, [], ◌++◌, refl, Result, Ok, Err}, specs.List.{repeat}, proofs.Common.{add-one, arith, ap, sym, ◌∙◌, append_assoc, append-nil, length-append}}
use Rattle.pad_fmt.specs.{declared.sink.Full.{Full}, Sink.{Took, TookNothing, TookPrefix, WroteInPieces}}

module _ {S : Type 0} {text : S → List ℕ} {room : S → ℕ} where
  -- first these bytes, then those
  pub both_taken : {a b c : S} {xs ys : List ℕ}
      → Took text room a b xs → Took text room b c ys → Took text room a c (xs ++ ys)
  both_taken {xs} {ys} first second = record {
    appended = rw (second.appended, first.appended, append_assoc);
    left = omega (arith, first.left, second.left, length-append xs ys);
  }

  -- to take nothing is to take an empty prefix
  pub nothing_is_prefix : {a b : S} {xs : List ℕ} → TookNothing text room a b xs → TookPrefix text room a b xs
  nothing_is_prefix {xs} none = record {
    too_long = none.too_long;
    prefix = [];
    rest = xs;
    whole = refl;
    took = record {
      appended = ap text none.unchanged ∙ sym (append-nil _);
      left = omega (arith, ap room none.unchanged);
    };
  }

  -- a prefix of some bytes is one of those bytes and more
  pub prefix_before : {a b : S} {xs : List ℕ} (ys : List ℕ)
      → TookPrefix text room a b xs → TookPrefix text room a b (xs ++ ys)
  prefix_before {xs} ys cut = record {
    too_long = omega (arith, cut.too_long, length-append xs ys);
    prefix = cut.prefix;
    rest = cut.rest ++ ys;
    whole = sym (append_assoc cut.prefix cut.rest ys) ∙ ap (λ l. l ++ ys) cut.whole;
    took = cut.took;
  }

  -- all of some bytes, and then a prefix of more
  pub prefix_after : {a b c : S} {xs ys : List ℕ}
      → Took text room a b xs → TookPrefix text room b c ys → TookPrefix text room a c (xs ++ ys)
  prefix_after {xs} {ys} first cut = record {
    too_long = omega (arith, first.left, cut.too_long, length-append xs ys);
    prefix = xs ++ cut.prefix;
    rest = cut.rest;
    whole = append_assoc xs cut.prefix cut.rest ∙ ap (λ l. xs ++ l) cut.whole;
    took = both_taken first cut.took;
  }

repeat_last : (n : ℕ) (xs : List ℕ) → repeat (suc n) xs ≡ repeat n xs ++ xs
repeat_last zero xs = append-nil xs
repeat_last (suc n) xs = ap (λ l. xs ++ l) (repeat_last n xs) ∙ sym (append_assoc xs (repeat n xs) xs)

repeat_split : (i k : ℕ) (xs : List ℕ) → repeat (i + suc k) xs ≡ repeat i xs ++ (xs ++ repeat k xs)
repeat_split zero k xs = let e : zero + suc k ≡ suc k = omega arith in rw e refl
repeat_split (suc i) k xs = let e : suc i + suc k ≡ suc (i + suc k) = omega arith in
    rw e (ap (λ l. xs ++ l) (repeat_split i k xs) ∙ sym (append_assoc xs (repeat i xs) (xs ++ repeat k xs)))

module _ {S : Type 0} {text : S → List ℕ} {room : S → ℕ} {a b c : S} {xs : List ℕ} where
  -- after i of n repeats, the one that doesn't fit leaves a prefix of all
  pub repeats_cut : (i n : ℕ) → i < n
      → Took text room a b (repeat i xs) → TookNothing text room b c xs → TookPrefix text room a c (repeat n xs)
  repeats_cut i n below some none = let e : n ≡ i + suc (n - i - 1) = omega arith in
      rw (e, repeat_split i (n - i - 1) xs)
      (prefix_after some (prefix_before (repeat (n - i - 1) xs) (nothing_is_prefix none)))

  -- one more repeat
  pub repeats_more : (i : ℕ) → Took text room a b (repeat i xs) → Took text room b c xs → Took text room a c (repeat (i + 1) xs)
  repeats_more i some one = rw (add-one, repeat_last i xs) (both_taken some one)

-- some bytes, and then a call of several pieces
pub pieces_after : {S : Type 0} {text : S → List ℕ} {room : S → ℕ} {a b : S} {xs : List ℕ}
    (c : S) (ys : List ℕ) (r : Result (Unit {0}) Full)
    → Took text room a b xs → WroteInPieces text room b c ys r → WroteInPieces text room a c (xs ++ ys) r
pieces_after c ys (Ok _) first more = both_taken first more
pieces_after c ys (Err _) first more = prefix_after first more
