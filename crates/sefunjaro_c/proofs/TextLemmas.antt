-- The texts of instants are text, and an instant in parts.
use Rattle.std.proofs.{Common.{◌≡◌, ◌+◌, ◌<◌, ◌/◌, ◌%◌, ℕ, zero, suc, Bool, true, false, cond, ℤ, pos, negsuc, ◌+ℤ◌, ◌*ℤ◌, ◌≤ℤ◌, List, [], ◌∷◌, ◌++◌, map, refl, sym, subst, arith}, lemmas.Int.{ints}}
use Rattle.std.proofs.lemmas.Str.{is_utf8-from_IsUtf8, IsUtf8-from_ascii, IsAscii-append, Ascii.{IsAscii-nil}}
use Rattle.std.specs.{Prelude.{int_lt, unsigned_abs}, Int.{int_rem_euclid}, Str.{is_utf8, IsAscii}}
use Rattle.basics.specs.Dates.{year_of, month_of, day_of}
use Rattle.civil_base.specs.{Clock.{hour_of, minute_of, second_of, nanosecond_of}, Instants.{local_at, seconds_of}, Layout.{date_digits, day_part, four_digits, local_text, nine_digits, offset_text, time_part, time_text, two_digits, year_sign, zoned_text}}

cons : (b : ℕ) (bs : List ℕ) → b < 128 → IsAscii bs → IsAscii (b ∷ bs)
cons b bs h all zero = h
cons b bs h all (suc i) = all i

small : (m : ℕ) → 48 + m % 10 < 128
small m = omega arith

digits : (ms : List ℕ) → IsAscii (map (λ m. 48 + m % 10) ms)
digits [] = IsAscii-nil
digits (m ∷ ms) = cons (48 + m % 10) (map (λ m. 48 + m % 10) ms) (small m) (digits ms)

two : (n : ℕ) → IsAscii (two_digits n)
two n = digits (n / 10 ∷ n / 1 ∷ [])

four : (n : ℕ) → IsAscii (four_digits n)
four n = digits (n / 1000 ∷ n / 100 ∷ n / 10 ∷ n / 1 ∷ [])

nine : (n : ℕ) → IsAscii (nine_digits n)
nine n =
    digits (n / 100000000 ∷ n / 10000000 ∷ n / 1000000 ∷ n / 100000 ∷ n / 10000 ∷ n / 1000 ∷ n / 100 ∷ n / 10 ∷ n / 1 ∷ [])

-- text, a byte, text
joined : (xs : List ℕ) (b : ℕ) (ys : List ℕ) → b < 128 → IsAscii xs → IsAscii ys → IsAscii (xs ++ b ∷ ys)
joined xs b ys h all more = IsAscii-append xs (b ∷ ys) all (cons b ys h more)

sign : (y : ℤ) → IsAscii (year_sign y)
unfolding year_sign
sign y = either (int_lt y (pos 0))
  where
    either : (below : Bool) → IsAscii (cond below (45 ∷ []) [])
    either true = cons 45 [] (omega arith) IsAscii-nil
    either false = IsAscii-nil

date : (k : ℤ) → IsAscii (date_digits k)
unfolding date_digits
date k =
    joined (four_digits (unsigned_abs (year_of k))) 45 (two_digits (month_of k) ++ 45 ∷ two_digits (day_of k)) (omega arith)
    (four (unsigned_abs (year_of k)))
    (joined (two_digits (month_of k)) 45 (two_digits (day_of k)) (omega arith) (two (month_of k)) (two (day_of k)))

time : (t : ℕ) → IsAscii (time_text t)
unfolding time_text
time t =
    joined (two_digits (hour_of t)) 58 (two_digits (minute_of t) ++ 58 ∷ two_digits (second_of t) ++ 46 ∷ nine_digits (nanosecond_of t))
    (omega arith) (two (hour_of t))
    (joined (two_digits (minute_of t)) 58 (two_digits (second_of t) ++ 46 ∷ nine_digits (nanosecond_of t)) (omega arith) (two (minute_of t))
    (joined (two_digits (second_of t)) 46 (nine_digits (nanosecond_of t)) (omega arith) (two (second_of t)) (nine (nanosecond_of t))))

local : (x : ℤ) → IsAscii (local_text x)
unfolding local_text
local x =
    let day = day_part x in let sign_text = year_sign (year_of day) in
    joined (sign_text ++ date_digits day) 32 (time_text (time_part x)) (omega arith)
    (IsAscii-append sign_text (date_digits day) (sign (year_of day)) (date day)) (time (time_part x))

mark : (o : ℤ) → cond (int_lt o (pos 0)) 45 43 < 128
mark o = either (int_lt o (pos 0))
  where
    either : (below : Bool) → cond below 45 43 < 128
    either true = omega arith
    either false = omega arith

offset : (o : ℤ) → IsAscii (offset_text o)
unfolding offset_text
offset o =
    let size = unsigned_abs o in
    cons (cond (int_lt o (pos 0)) 45 43) (two_digits (size / 3600) ++ 58 ∷ two_digits (size / 60 % 60) ++ 58 ∷ two_digits (size % 60)) (mark o)
    (joined (two_digits (size / 3600)) 58 (two_digits (size / 60 % 60) ++ 58 ∷ two_digits (size % 60)) (omega arith) (two (size / 3600))
    (joined (two_digits (size / 60 % 60)) 58 (two_digits (size % 60)) (omega arith) (two (size / 60 % 60)) (two (size % 60))))

-- a zoned text is UTF-8
pub zoned_is_text : (t o : ℤ) → is_utf8 (zoned_text t o) ≡ true
unfolding zoned_text
zoned_is_text t o =
    is_utf8-from_IsUtf8 (zoned_text t o)
    (IsUtf8-from_ascii (zoned_text t o) (joined (local_text (local_at t o)) 32 (offset_text o) (omega arith) (local (local_at t o)) (offset o)))

-- so what isn't UTF-8 is none
pub no_text : (text : List ℕ) (t o : ℤ) → is_utf8 text ≡ false → zoned_text t o ≡ text → ⊥
no_text text t o none e = apart (zoned_is_text t o) (subst (λ bytes. is_utf8 bytes ≡ false) (sym e) none)
  where
    apart : {b : Bool} → b ≡ true → b ≡ false → ⊥
    apart e f = cc

-- the whole seconds of an instant, and what is left
pub in_parts : (t r : ℤ) → r ≡ int_rem_euclid t (pos 1000000000) → seconds_of t *ℤ pos 1000000000 +ℤ r ≡ t
unfolding seconds_of
in_parts (pos n) r e = omega (arith, ints, e)
in_parts (negsuc n) r e = omega (arith, ints, e)

-- a number that isn't below 0 is that of its size
pub size_is : (r : ℤ) → pos 0 ≤ℤ r → pos (unsigned_abs r) ≡ r
size_is (pos n) h = refl
size_is (negsuc n) h = absurd (omega (arith, ints, h))
