-- A number of nanoseconds, digit by digit; the place of a space.
use Rattle.std.proofs.Common.{◌≡◌, sym, Option, Some, None, ℕ, zero, suc, ◌+◌, ◌-◌, ◌*◌, ◌^◌, ◌<◌, ◌≤◌, ◌&&◌, true, Bool, List, [], ◌∷◌, length, take, get_or, arith, nat_lt, nat_le, ltb-true, lit<, lit≤, length-take}
use Rattle.std.proofs.{lemmas.Bool.{and_parts, leb-true, false_from_ne_true}, lemmas.Int.Digits.{digits_value-lt, digits_value_more}, lemmas.Str.{digit_value_digit}, lemmas.Str.Parse.{digit_from_value, digits_value-take-le}, Math.Nat.{pow-le-pow_right}}
use Rattle.std.proofs.lemmas.List.Sums.{position_or_len_is}
use Rattle.std.specs.{Char.{digit_value, is_digit}, List.{list_all, position_or_len}, Option.{unwrap_or}, Str.Parse.{AllDigits, digits_value}}
use Rattle.memchr.specs.Find.{IsFirstByte, is_byte}
use Rattle.zone_answers.specs.Requests.{is_number, is_space}

abbrev all_pass : List ℕ → Bool
all_pass ds = list_all (λ c. is_digit c 10) ds

pub digits_from : (ds : List ℕ) → list_all (λ c. is_digit c 10) ds ≡ true → AllDigits 10 ds
digits_from [] h = tt
digits_from (d ∷ ds) h = let both = and_parts (is_digit d 10) _ h in (ltb-true _ 10 both.0, digits_from ds both.1)

-- at most this many digits make a number below this power of two
fits : (ds : List ℕ) → list_all (λ c. is_digit c 10) ds ≡ true → length ds ≤ 30 → digits_value 10 ds < 2 ^ 127
fits ds h short =
    let below : digits_value 10 ds < 10 ^ length ds = digits_value-lt 10 ds (digits_from ds h) in
    let few : 10 ^ length ds ≤ 10 ^ 30 = pow-le-pow_right (lit< tt) short in
    let room : 10 ^ 30 ≤ 2 ^ 127 = lit≤ tt in omega (arith, below, few, room)

number_below : (ds : List ℕ) → is_number ds ≡ true → digits_value 10 ds < 2 ^ 127
number_below ds is =
    let outer = and_parts (nat_lt 0 (length ds) && nat_le (length ds) 30) _ is in
    let inner = and_parts (nat_lt 0 (length ds)) _ outer.0 in
    fits ds outer.1 (leb-true _ _ inner.1)

pub part_below : (ds : List ℕ) (i : ℕ) → is_number ds ≡ true → digits_value 10 (take i ds) < 2 ^ 127
part_below ds i is = omega (arith, digits_value-take-le 10 ds i (lit≤ tt), number_below ds is)

digit_below : (ds : List ℕ) (i : ℕ) → all_pass ds ≡ true → i < length ds → digit_value (get_or ds i 0) < 10
digit_below [] i h l = absurd (omega arith)
digit_below (d ∷ ds) zero h l = ltb-true _ 10 (and_parts (is_digit d 10) _ h).0
digit_below (d ∷ ds) (suc i) h l = digit_below ds i (and_parts (is_digit d 10) _ h).1 (omega arith)

-- the number of the digits up to a place, and one more; it is below a limit
pub record IsStep (limit : ℕ) (ds : List ℕ) (i size : ℕ) : Type 0 where
  pub byte : 48 ≤ get_or ds i 0
  pub value : 10 * size + (get_or ds i 0 - 48) ≡ digits_value 10 (take (i + 1) ds)
  pub bound : 10 * size + (get_or ds i 0 - 48) < limit

step_below : (limit : ℕ) (ds : List ℕ) (i size : ℕ) → is_number ds ≡ true → i < length ds → size ≡ digits_value 10 (take i ds)
    → digits_value 10 (take (i + 1) ds) < limit → IsStep limit ds i size
step_below limit ds i size is l same below =
    let all = (and_parts (nat_lt 0 (length ds) && nat_le (length ds) 30) _ is).1 in
    let digit = digit_below ds i all l in
    let byte = digit_value_digit (get_or ds i 0) (digit_from_value (get_or ds i 0) digit) in
    let more = digits_value_more 10 ds i l in
    record { byte = omega (arith, byte); value = omega (arith, byte, more, same); bound = omega (arith, byte, more, same, below) }

pub step : (ds : List ℕ) (i size : ℕ) → is_number ds ≡ true → i < length ds → size ≡ digits_value 10 (take i ds)
    → IsStep (2 ^ 127) ds i size
step ds i size is l same = step_below (2 ^ 127) ds i size is l same (part_below ds (i + 1) is)

all_in_front : (ds : List ℕ) (i : ℕ) → AllDigits 10 ds → AllDigits 10 (take i ds)
all_in_front ds zero h = tt
all_in_front [] (suc i) h = tt
all_in_front (d ∷ ds) (suc i) h = (h.0, all_in_front ds i h.1)

pub front_step : (ds : List ℕ) (i size : ℕ) → is_number ds ≡ true → i < length ds → i < 19 → size ≡ digits_value 10 (take i ds)
    → IsStep (2 ^ 64) ds i size
front_step ds i size is l few same =
    let all = digits_from ds (and_parts (nat_lt 0 (length ds) && nat_le (length ds) 30) _ is).1 in
    let below = digits_value-lt 10 (take (i + 1) ds) (all_in_front ds (i + 1) all) in
    let long : length (take (i + 1) ds) ≤ 19 = omega (arith, length-take {A = ℕ}) in
    let most : 10 ^ length (take (i + 1) ds) ≤ 10 ^ 19 = pow-le-pow_right (lit< tt) long in
    let room : 10 ^ 19 ≤ 2 ^ 64 = lit≤ tt in
    step_below (2 ^ 64) ds i size is l same (omega (arith, below, most, room))

-- where the first space was looked for, the place of it, or the end where there is none
pub space_found : (bytes : List ℕ) (found : Option ℕ) → IsFirstByte (is_byte 32) bytes found
    → unwrap_or found (length bytes) ≡ position_or_len is_space bytes
space_found bytes None nowhere =
    sym (position_or_len_is is_space bytes (length bytes) 0 (omega arith)
    (λ k below. false_from_ne_true _ (nowhere k (omega arith) below)) (λ below. absurd (omega (arith, below))))
space_found bytes (Some place) first =
    sym (position_or_len_is is_space bytes place 0 (omega (arith, first.0.high))
    (λ k below. false_from_ne_true _ (first.0.before k (omega arith) below)) (λ _. first.1))
