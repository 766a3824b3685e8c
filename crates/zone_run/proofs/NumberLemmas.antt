-- What `parse` reads of a word is the number that the word is the decimal text of.
use Rattle.std.proofs.{Common.{◌≡◌, ℕ, ℤ, pos, negsuc, ◌^◌, ◌<◌, Bool, true, false, cond, List, Some, None, Result, Ok, Err, refl, ap, arith, nat_le}, lemmas.Bool.{and_parts, leb-true}, lemmas.Fmt.{parse-signed_decimal}, lemmas.Int.{fits_signed_from_abs}}
use Rattle.std.proofs.lemmas.Slice.Eq.{bytes_eq-Decides}
use Rattle.std.specs.{Int.{w64}, Prelude.{unsigned_abs, MatchResult}, Fmt.{signed_decimal}, Int.Signed.{mag}, Str.Parse.{signed_digits_value, ParsesSigned}}
use Rattle.zone_run.specs.Numbers.{is_number, number_in}

mag_below : (z : ℤ) → unsigned_abs z < 2 ^ 63 → mag z < 2 ^ 63
mag_below (pos n) h = h
mag_below (negsuc n) h = omega (arith, h)

-- the decimal text of a number of that size is read as it
read_as : {E : Type 0} (most : ℕ) (number : ℤ) (word : List ℕ) (r : Result ℤ E) → most < 2 ^ 63 → is_number most number word ≡ true
    → ParsesSigned w64 10 word r → r ≡ Ok number
read_as most number word r small is read =
    let parts = and_parts (nat_le (unsigned_abs number) most) _ is in
    let size : unsigned_abs number < 2 ^ 63 = omega (arith, leb-true _ _ parts.0, small) in
    parse-signed_decimal w64 number word r (fits_signed_from_abs w64 number size) (mag_below number size)
    ((bytes_eq-Decides word (signed_decimal number)).0 parts.1) read

-- a word that is read is no other number than the one that is read, and one that isn't read is no number of that size
pub number_read : {E : Type 0} (most : ℕ) (word : List ℕ) (r : Result ℤ E) → most < 2 ^ 63 → ParsesSigned w64 10 word r →
    MatchResult r (λ number. cond (is_number most number word) (Some number) None ≡ number_in most word) (λ _. None ≡ number_in most word)
number_read most word (Ok number) small read = ap (λ n. cond (is_number most n word) (Some n) None) read.1
number_read {E} most word (Err e) small read = by_test (is_number most (signed_digits_value 10 word) word) refl
  where
    by_test : (b : Bool) → is_number most (signed_digits_value 10 word) word ≡ b → None ≡ cond b (Some (signed_digits_value 10 word)) None
    by_test true is = let read_so = read_as {E = E} most (signed_digits_value 10 word) word (Err e) small is read in absurd (cc)
    by_test false is = refl
