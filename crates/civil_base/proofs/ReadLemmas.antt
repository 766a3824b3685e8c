-- What the bytes of a text are, one by one.
use Rattle.std.proofs.Common.{◌≡◌, refl, arith, ℕ, zero, suc, ◌+◌, ◌*◌, ◌/◌, ◌%◌, ◌≤◌, ◌<◌, nat_lt, Bool, true, false, nat_eq, ◌&&◌, List, [], ◌∷◌, ◌++◌, length, get_or, sym, ap, ◌∙◌, pos, unsigned_abs, int_lt, drop, Option, Some, None, Result, Ok, Err}
use Rattle.std.proofs.lemmas.Bool.Decides.{nat_tests}
use Rattle.std.specs.{Prelude.{IsOk, IfOk, IfSome}, Result.{result_ok}}
use Rattle.civil_base.specs.{DigitLaws.{digits-halves}, Layout.{digit, two_digits, four_digits, nine_digits}, Offsets.{signed_by}}

-- so many bytes from a place on
abbrev items : ℕ → ℕ → List ℕ → List ℕ
items place zero bytes = []
items place (suc n) bytes = get_or bytes place 0 ∷ items (suc place) n bytes

items-later : (place n first : ℕ) (rest : List ℕ) → items (suc place) n (first ∷ rest) ≡ items place n rest
items-later place zero first rest = refl
items-later place (suc n) first rest = ap (λ l. get_or rest place 0 ∷ l) (items-later (suc place) n first rest)

pub items-then : (n : ℕ) (bytes : List ℕ) → n ≤ length bytes → bytes ≡ items 0 n bytes ++ drop n bytes
items-then zero bytes h = refl
items-then (suc n) [] h = absurd (omega arith)
items-then (suc n) (first ∷ rest) h =
    ap (λ l. first ∷ l) (items-then n rest (omega arith) ∙ ap (λ l. l ++ drop n rest) (sym (items-later 0 n first rest)))

drop-all : (n : ℕ) (bytes : List ℕ) → length bytes ≡ n → drop n bytes ≡ []
drop-all zero [] h = refl
drop-all zero (first ∷ rest) h = absurd (omega arith)
drop-all (suc n) [] h = absurd (omega arith)
drop-all (suc n) (first ∷ rest) h = drop-all n rest (omega arith)

pub nine-listed : (bytes : List ℕ) (n : ℕ) → length bytes ≡ 9 → get_or bytes 0 0 ≡ digit n 100000000
    → get_or bytes 1 0 ≡ digit n 10000000 → get_or bytes 2 0 ≡ digit n 1000000 → get_or bytes 3 0 ≡ digit n 100000
    → get_or bytes 4 0 ≡ digit n 10000 → get_or bytes 5 0 ≡ digit n 1000 → get_or bytes 6 0 ≡ digit n 100
    → get_or bytes 7 0 ≡ digit n 10 → get_or bytes 8 0 ≡ digit n 1 → bytes ≡ nine_digits n
nine-listed bytes n long e0 e1 e2 e3 e4 e5 e6 e7 e8 =
    items-then 9 bytes (omega arith) ∙ rw (drop-all 9 bytes long, e0, e1, e2, e3, e4, e5, e6, e7, e8) refl

pub date-listed : (bytes : List ℕ) (y m d : ℕ) → length bytes ≡ 10 → get_or bytes 0 0 ≡ digit y 1000
    → get_or bytes 1 0 ≡ digit y 100 → get_or bytes 2 0 ≡ digit y 10 → get_or bytes 3 0 ≡ digit y 1
    → get_or bytes 4 0 ≡ 45 → get_or bytes 5 0 ≡ digit m 10 → get_or bytes 6 0 ≡ digit m 1
    → get_or bytes 7 0 ≡ 45 → get_or bytes 8 0 ≡ digit d 10 → get_or bytes 9 0 ≡ digit d 1
    → bytes ≡ four_digits y ++ 45 ∷ two_digits m ++ 45 ∷ two_digits d
date-listed bytes y m d long e0 e1 e2 e3 e4 e5 e6 e7 e8 e9 =
    items-then 10 bytes (omega arith) ∙ rw (drop-all 10 bytes long, e0, e1, e2, e3, e4, e5, e6, e7, e8, e9) refl

pub time-listed : (bytes : List ℕ) (h m s n : ℕ) → length bytes ≡ 19 → get_or bytes 0 0 ≡ 32 → get_or bytes 1 0 ≡ digit h 10
    → get_or bytes 2 0 ≡ digit h 1 → get_or bytes 3 0 ≡ 58 → get_or bytes 4 0 ≡ digit m 10 → get_or bytes 5 0 ≡ digit m 1
    → get_or bytes 6 0 ≡ 58 → get_or bytes 7 0 ≡ digit s 10 → get_or bytes 8 0 ≡ digit s 1 → get_or bytes 9 0 ≡ 46
    → drop 10 bytes ≡ nine_digits n
    → bytes ≡ 32 ∷ two_digits h ++ 58 ∷ two_digits m ++ 58 ∷ two_digits s ++ 46 ∷ nine_digits n
time-listed bytes h m s n long e0 e1 e2 e3 e4 e5 e6 e7 e8 e9 rest =
    items-then 10 bytes (omega arith) ∙ rw (rest, e0, e1, e2, e3, e4, e5, e6, e7, e8, e9) refl

-- the sign and the size are those of the number that they make, where it isn't minus zero
pub signed_by-sign : (negative : Bool) (size : ℕ) → (negative && nat_eq size 0) ≡ false → int_lt (signed_by negative size) (pos 0) ≡ negative
signed_by-sign true zero h = absurd (cc)
signed_by-sign true (suc n) h = refl
signed_by-sign false size h = grind (arith, nat_tests)

pub signed_by-abs : (negative : Bool) (size : ℕ) → unsigned_abs (signed_by negative size) ≡ size
signed_by-abs true zero = refl
signed_by-abs true (suc n) = refl
signed_by-abs false size = refl

-- what is known of a value that is found gives something else
pub found_gives : {T : Type 0} {P Q : T → Type 0} (o : Option T) → IfSome o P → ((x : T) → P x → Q x) → IfSome o Q
found_gives (Some x) known gives = gives x known
found_gives None known gives = known

pub ok_gives : {T E A : Type 0} {P Q : T → Type 0} (r : Result T E) → (IsOk r → A) → IfOk r P → ((x : T) → A → P x → Q x) → IfSome (result_ok r) Q
ok_gives (Ok x) accepts known gives = gives x (accepts refl) known
ok_gives (Err e) accepts known gives = tt

pub byte-is : (a b : ℕ) → nat_eq a b ≡ true → a ≡ b
byte-is a b h = grind (arith, nat_tests)

pub below-halves : (n : ℕ) → n < 10000 → (n / 100 < 100) × (n % 100 < 100)
below-halves n small = (omega arith, omega arith)

-- as two digits at each end tell of four
pub told-halves : (front back n a b c d : ℕ) → n < 10000
    → ((k : ℕ) → k < 100 → a ≡ digit k 10 → b ≡ digit k 1 → front ≡ k) → ((k : ℕ) → k < 100 → c ≡ digit k 10 → d ≡ digit k 1 → back ≡ k)
    → a ≡ digit n 1000 → b ≡ digit n 100 → c ≡ digit n 10 → d ≡ digit n 1 → (front ≡ n / 100) × (back ≡ n % 100)
told-halves front back n a b c d small first second t h e o =
    let split = digits-halves n in
    let below = below-halves n small in
    (first (n / 100) below.0 (t ∙ split.0) (h ∙ split.1), second (n % 100) below.1 (e ∙ split.2) (o ∙ split.3))

pub joined-halves : (n front back : ℕ) → front ≡ n / 100 → back ≡ n % 100 → 100 * front + back ≡ n
joined-halves n front back is rest = omega arith

pub not-both : (a b most : ℕ) → a < most → b < most → (nat_lt a most && nat_lt b most) ≡ false → ⊥
not-both a b most p q h = grind (arith, nat_tests)
