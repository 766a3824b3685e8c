-- The digits of the numbers below 100, and the values of digits, read from tables.
use Rattle.std.proofs.Common.{◌≡◌, ℕ, zero, suc, ◌+◌, ◌*◌, ◌<◌, ◌≤◌, Bool, true, false, ◌&&◌, List, get_or, nat_eq, nat_lt, ltb-true, refl, sym, subst, arith, ◌-◌, if◌then◌else◌, cond, ap, ◌∙◌, [], ◌∷◌, ◌⊎◌, inl, inr, ◌/◌, ◌%◌}
use Rattle.std.proofs.lemmas.Bool.{and_parts, eqb-true, ltb-false}
use Rattle.std.specs.Prelude.{codes}
use Rattle.civil_base.specs.Layout.{digit}

abbrev pub pairs : List ℕ
pairs = codes "00010203040506070809101112131415161718192021222324252627282930313233343536373839404142434445464748495051525354555657585960616263646566676869707172737475767778798081828384858687888990919293949596979899"

-- a test passes at each number below another
abbrev passes_below : (ℕ → Bool) → ℕ → Bool
passes_below test zero = true
passes_below test (suc n) = test n && passes_below test n

passes_at : (test : ℕ → Bool) (n k : ℕ) → passes_below test n ≡ true → k < n → test k ≡ true
passes_at test zero k all below = absurd (omega (arith, below))
passes_at test (suc n) k all below = by_order (nat_lt k n) refl (passes_at test n k (and_parts (test n) _ all).1)
  where
    by_order : (b : Bool) → nat_lt k n ≡ b → (k < n → test k ≡ true) → test k ≡ true
    by_order true less earlier = earlier (ltb-true k n less)
    by_order false more earlier =
        let last : k ≡ n = omega (arith, below, ltb-false k n more) in
        subst (λ m. test m ≡ true) (sym last) (and_parts (test n) _ all).0

-- ---- pairs

abbrev is_pair : ℕ → Bool
is_pair n = nat_eq (get_or pairs (2 * n) 0) (digit n 10) && nat_eq (get_or pairs (2 * n + 1) 0) (digit n 1)

all_pairs : passes_below is_pair 100 ≡ true
all_pairs = refl

-- the two digits stand one after another
pub pair-digits : (n : ℕ) → n < 100 → (get_or pairs (2 * n) 0 ≡ digit n 10) × (get_or pairs (2 * n + 1) 0 ≡ digit n 1)
pair-digits n small =
    let both = and_parts (nat_eq (get_or pairs (2 * n) 0) (digit n 10)) _ (passes_at is_pair 100 n all_pairs small) in
    (eqb-true _ _ both.0, eqb-true _ _ both.1)

-- ---- digits

abbrev pub tens : List ℕ
tens = 100 ∷ 100 ∷ 100 ∷ 100 ∷ 100 ∷ 100 ∷ 100 ∷ 100 ∷ 100 ∷ 100 ∷ 100 ∷ 100 ∷ 100 ∷ 100 ∷ 100 ∷ 100 ∷ 100 ∷ 100 ∷ 100 ∷ 100 ∷ 100 ∷ 100 ∷ 100 ∷ 100 ∷ 100 ∷ 100 ∷ 100 ∷ 100 ∷ 100 ∷ 100 ∷ 100 ∷ 100 ∷ 100 ∷ 100 ∷ 100 ∷ 100 ∷ 100 ∷ 100 ∷ 100 ∷ 100 ∷ 100 ∷ 100 ∷ 100 ∷ 100 ∷ 100 ∷ 100 ∷ 100 ∷ 100 ∷ 0 ∷ 10 ∷ 20 ∷ 30 ∷ 40 ∷ 50 ∷ 60 ∷ 70 ∷ 80 ∷ 90 ∷ 100 ∷ 100 ∷ 100 ∷ 100 ∷ 100 ∷ 100 ∷ 100 ∷ 100 ∷ 100 ∷ 100 ∷ 100 ∷ 100 ∷ 100 ∷ 100 ∷ 100 ∷ 100 ∷ 100 ∷ 100 ∷ 100 ∷ 100 ∷ 100 ∷ 100 ∷ 100 ∷ 100 ∷ 100 ∷ 100 ∷ 100 ∷ 100 ∷ 100 ∷ 100 ∷ 100 ∷ 100 ∷ 100 ∷ 100 ∷ 100 ∷ 100 ∷ 100 ∷ 100 ∷ 100 ∷ 100 ∷ 100 ∷ 100 ∷ 100 ∷ 100 ∷ 100 ∷ 100 ∷ 100 ∷ 100 ∷ 100 ∷ 100 ∷ 100 ∷ 100 ∷ 100 ∷ 100 ∷ 100 ∷ 100 ∷ 100 ∷ 100 ∷ 100 ∷ 100 ∷ 100 ∷ 100 ∷ 100 ∷ 100 ∷ 100 ∷ 100 ∷ 100 ∷ 100 ∷ 100 ∷ 100 ∷ 100 ∷ 100 ∷ 100 ∷ 100 ∷ 100 ∷ 100 ∷ 100 ∷ 100 ∷ 100 ∷ 100 ∷ 100 ∷ 100 ∷ 100 ∷ 100 ∷ 100 ∷ 100 ∷ 100 ∷ 100 ∷ 100 ∷ 100 ∷ 100 ∷ 100 ∷ 100 ∷ 100 ∷ 100 ∷ 100 ∷ 100 ∷ 100 ∷ 100 ∷ 100 ∷ 100 ∷ 100 ∷ 100 ∷ 100 ∷ 100 ∷ 100 ∷ 100 ∷ 100 ∷ 100 ∷ 100 ∷ 100 ∷ 100 ∷ 100 ∷ 100 ∷ 100 ∷ 100 ∷ 100 ∷ 100 ∷ 100 ∷ 100 ∷ 100 ∷ 100 ∷ 100 ∷ 100 ∷ 100 ∷ 100 ∷ 100 ∷ 100 ∷ 100 ∷ 100 ∷ 100 ∷ 100 ∷ 100 ∷ 100 ∷ 100 ∷ 100 ∷ 100 ∷ 100 ∷ 100 ∷ 100 ∷ 100 ∷ 100 ∷ 100 ∷ 100 ∷ 100 ∷ 100 ∷ 100 ∷ 100 ∷ 100 ∷ 100 ∷ 100 ∷ 100 ∷ 100 ∷ 100 ∷ 100 ∷ 100 ∷ 100 ∷ 100 ∷ 100 ∷ 100 ∷ 100 ∷ 100 ∷ 100 ∷ 100 ∷ 100 ∷ 100 ∷ 100 ∷ 100 ∷ 100 ∷ 100 ∷ 100 ∷ 100 ∷ 100 ∷ 100 ∷ 100 ∷ 100 ∷ 100 ∷ 100 ∷ 100 ∷ 100 ∷ 100 ∷ 100 ∷ 100 ∷ 100 ∷ 100 ∷ 100 ∷ 100 ∷ 100 ∷ 100 ∷ 100 ∷ 100 ∷ 100 ∷ 100 ∷ 100 ∷ 100 ∷ 100 ∷ 100 ∷ 100 ∷ []

abbrev pub ones : List ℕ
ones = 100 ∷ 100 ∷ 100 ∷ 100 ∷ 100 ∷ 100 ∷ 100 ∷ 100 ∷ 100 ∷ 100 ∷ 100 ∷ 100 ∷ 100 ∷ 100 ∷ 100 ∷ 100 ∷ 100 ∷ 100 ∷ 100 ∷ 100 ∷ 100 ∷ 100 ∷ 100 ∷ 100 ∷ 100 ∷ 100 ∷ 100 ∷ 100 ∷ 100 ∷ 100 ∷ 100 ∷ 100 ∷ 100 ∷ 100 ∷ 100 ∷ 100 ∷ 100 ∷ 100 ∷ 100 ∷ 100 ∷ 100 ∷ 100 ∷ 100 ∷ 100 ∷ 100 ∷ 100 ∷ 100 ∷ 100 ∷ 0 ∷ 1 ∷ 2 ∷ 3 ∷ 4 ∷ 5 ∷ 6 ∷ 7 ∷ 8 ∷ 9 ∷ 100 ∷ 100 ∷ 100 ∷ 100 ∷ 100 ∷ 100 ∷ 100 ∷ 100 ∷ 100 ∷ 100 ∷ 100 ∷ 100 ∷ 100 ∷ 100 ∷ 100 ∷ 100 ∷ 100 ∷ 100 ∷ 100 ∷ 100 ∷ 100 ∷ 100 ∷ 100 ∷ 100 ∷ 100 ∷ 100 ∷ 100 ∷ 100 ∷ 100 ∷ 100 ∷ 100 ∷ 100 ∷ 100 ∷ 100 ∷ 100 ∷ 100 ∷ 100 ∷ 100 ∷ 100 ∷ 100 ∷ 100 ∷ 100 ∷ 100 ∷ 100 ∷ 100 ∷ 100 ∷ 100 ∷ 100 ∷ 100 ∷ 100 ∷ 100 ∷ 100 ∷ 100 ∷ 100 ∷ 100 ∷ 100 ∷ 100 ∷ 100 ∷ 100 ∷ 100 ∷ 100 ∷ 100 ∷ 100 ∷ 100 ∷ 100 ∷ 100 ∷ 100 ∷ 100 ∷ 100 ∷ 100 ∷ 100 ∷ 100 ∷ 100 ∷ 100 ∷ 100 ∷ 100 ∷ 100 ∷ 100 ∷ 100 ∷ 100 ∷ 100 ∷ 100 ∷ 100 ∷ 100 ∷ 100 ∷ 100 ∷ 100 ∷ 100 ∷ 100 ∷ 100 ∷ 100 ∷ 100 ∷ 100 ∷ 100 ∷ 100 ∷ 100 ∷ 100 ∷ 100 ∷ 100 ∷ 100 ∷ 100 ∷ 100 ∷ 100 ∷ 100 ∷ 100 ∷ 100 ∷ 100 ∷ 100 ∷ 100 ∷ 100 ∷ 100 ∷ 100 ∷ 100 ∷ 100 ∷ 100 ∷ 100 ∷ 100 ∷ 100 ∷ 100 ∷ 100 ∷ 100 ∷ 100 ∷ 100 ∷ 100 ∷ 100 ∷ 100 ∷ 100 ∷ 100 ∷ 100 ∷ 100 ∷ 100 ∷ 100 ∷ 100 ∷ 100 ∷ 100 ∷ 100 ∷ 100 ∷ 100 ∷ 100 ∷ 100 ∷ 100 ∷ 100 ∷ 100 ∷ 100 ∷ 100 ∷ 100 ∷ 100 ∷ 100 ∷ 100 ∷ 100 ∷ 100 ∷ 100 ∷ 100 ∷ 100 ∷ 100 ∷ 100 ∷ 100 ∷ 100 ∷ 100 ∷ 100 ∷ 100 ∷ 100 ∷ 100 ∷ 100 ∷ 100 ∷ 100 ∷ 100 ∷ 100 ∷ 100 ∷ 100 ∷ 100 ∷ 100 ∷ 100 ∷ 100 ∷ 100 ∷ 100 ∷ 100 ∷ 100 ∷ 100 ∷ 100 ∷ 100 ∷ 100 ∷ 100 ∷ 100 ∷ 100 ∷ 100 ∷ 100 ∷ 100 ∷ 100 ∷ 100 ∷ 100 ∷ 100 ∷ 100 ∷ 100 ∷ 100 ∷ 100 ∷ 100 ∷ 100 ∷ []

-- of a digit it is so many times the value, and 100 of any other byte
abbrev is_value : ℕ → List ℕ → ℕ → Bool
is_value times table byte = nat_eq (get_or table byte 0) (if nat_lt byte 48 then 100 else (if nat_lt byte 58 then times * (byte - 48) else 100))

all_tens : passes_below (is_value 10 tens) 256 ≡ true
all_tens = refl

all_ones : passes_below (is_value 1 ones) 256 ≡ true
all_ones = refl

-- the value of a digit so many times; any other byte has 100
pub record IsValue (times byte value : ℕ) : Type 0 where
  pub digit : (d : ℕ) → d < 10 → byte ≡ 48 + d → value ≡ times * d
  pub other : value ≡ 100 ⊎ ((48 ≤ byte) × (byte < 58) × (value ≡ times * (byte - 48)))

value-is : (times : ℕ) (table : List ℕ) (byte : ℕ) → is_value times table byte ≡ true → IsValue times byte (get_or table byte 0)
value-is times table byte is = by_first (nat_lt byte 48) refl (eqb-true _ _ is)
  where
    by_second : (b : Bool) → nat_lt byte 58 ≡ b → 48 ≤ byte → get_or table byte 0 ≡ cond b (times * (byte - 48)) 100 → IsValue times byte (get_or table byte 0)
    by_second true below least same = record {
      digit = λ d small at. let place : byte - 48 ≡ d = omega (arith, at) in same ∙ ap (λ k. times * k) place;
      other = inr (least, ltb-true byte 58 below, same);
    }
    by_second false above least same = record { digit = λ d small at. absurd (omega (arith, small, at, ltb-false byte 58 above)); other = inl same }

    by_first : (b : Bool) → nat_lt byte 48 ≡ b → get_or table byte 0 ≡ cond b 100 (if nat_lt byte 58 then times * (byte - 48) else 100) → IsValue times byte (get_or table byte 0)
    by_first true below same = record { digit = λ d small at. absurd (omega (arith, at, ltb-true byte 48 below)); other = inl same }
    by_first false above same = by_second (nat_lt byte 58) refl (ltb-false byte 48 above) same

-- as of every byte of a table
value-at : (times : ℕ) (table : List ℕ) (byte : ℕ) → passes_below (is_value times table) 256 ≡ true → byte < 256 → IsValue times byte (get_or table byte 0)
value-at times table byte all small = value-is times table byte (passes_at (is_value times table) 256 byte all small)

-- what is known of ten times a value
pub record IsTens (byte value : ℕ) : Type 0 where
  pub digit : (d : ℕ) → d < 10 → byte ≡ 48 + d → value ≡ 10 * d
  pub other : value < 100 → byte ≡ 48 + value / 10
  pub whole : value % 10 ≡ 0
  pub most : value ≤ 100

-- and of a value
pub record IsOnes (byte value : ℕ) : Type 0 where
  pub digit : (d : ℕ) → d < 10 → byte ≡ 48 + d → value ≡ d
  pub other : value < 100 → byte ≡ 48 + value
  pub one : value < 100 → value < 10
  pub most : value ≤ 100

pub tens-value : (byte : ℕ) → byte < 256 → IsTens byte (get_or tens byte 0)
tens-value byte small = let is = value-at 10 tens byte all_tens small in by_case (get_or tens byte 0) is.digit is.other
  where
    by_case : (value : ℕ) → ((d : ℕ) → d < 10 → byte ≡ 48 + d → value ≡ 10 * d)
        → value ≡ 100 ⊎ ((48 ≤ byte) × (byte < 58) × (value ≡ 10 * (byte - 48))) → IsTens byte value
    by_case value digit (inl e) = record { digit = digit; other = λ few. absurd (omega (arith, few, e)); whole = omega (arith, e); most = omega (arith, e) }
    by_case value digit (inr (a, b, e)) = record { digit = digit; other = λ few. omega (arith, a, e); whole = omega (arith, e); most = omega (arith, a, b, e) }

pub ones-value : (byte : ℕ) → byte < 256 → IsOnes byte (get_or ones byte 0)
ones-value byte small = let is = value-at 1 ones byte all_ones small in by_case (get_or ones byte 0) is.digit is.other
  where
    by_case : (value : ℕ) → ((d : ℕ) → d < 10 → byte ≡ 48 + d → value ≡ 1 * d)
        → value ≡ 100 ⊎ ((48 ≤ byte) × (byte < 58) × (value ≡ 1 * (byte - 48))) → IsOnes byte value
    by_case value digit (inl e) = record {
      digit = λ d small at. omega (arith, digit d small at);
      other = λ few. absurd (omega (arith, few, e));
      one = λ few. absurd (omega (arith, few, e));
      most = omega (arith, e);
    }
    by_case value digit (inr (a, b, e)) = record {
      digit = λ d small at. omega (arith, digit d small at);
      other = λ few. omega (arith, a, e);
      one = λ few. omega (arith, b, e);
      most = omega (arith, a, b, e);
    }
