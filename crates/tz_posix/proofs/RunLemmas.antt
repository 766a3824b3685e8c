-- A text may be cut after a run at its front.
use Rattle.std.proofs.{Common.{◌≡◌, ℕ, zero, suc, ◌<◌, Bool, true, false, List, length, refl, arith, add-one}, lemmas.Bool.Decides.{nat_tests}, lemmas.List.Sums.{prefix_len-le-length, prefix_len_passes, prefix_len_stops}}
use Rattle.std.proofs.lemmas.Str.{IsCharBoundary-after_ascii, IsCharBoundary-start, IsCharBoundary-before_ascii}
use Rattle.std.specs.{Char.{is_ascii_digit, is_ascii_alphabetic}, List.{prefix_len}, Str.{IsUtf8, IsCharBoundary}}
use Rattle.tz_posix.specs.Spells.{is_enclosed}

pub digit_is_ascii : (b : ℕ) → is_ascii_digit b ≡ true → b < 128
digit_is_ascii b h = grind (arith, nat_tests)

pub letter_is_ascii : (b : ℕ) → is_ascii_alphabetic b ≡ true → b < 128
letter_is_ascii b h = grind (arith, nat_tests)

-- a text may be cut after a run of ASCII
pub boundary_after_run : (p : ℕ → Bool) → ((b : ℕ) → p b ≡ true → b < 128) → (text : List ℕ) → IsUtf8 text
    → IsCharBoundary text (prefix_len p text)
boundary_after_run p ascii text utf8 = after (prefix_len p text) refl
  where
    after : (n : ℕ) → prefix_len p text ≡ n → IsCharBoundary text n
    after zero e = IsCharBoundary-start text utf8
    after (suc n) e =
        let passes = prefix_len_passes p text n 0 (omega arith) in
        let inside : n < length text = omega (arith, prefix_len-le-length p text) in
        rw (← add-one) (IsCharBoundary-after_ascii text n utf8 inside (ascii _ passes))

-- and before a bracket
bracket_is_ascii : (b : ℕ) → is_enclosed b ≡ false → b < 128
bracket_is_ascii b h = grind (arith, nat_tests)

pub boundary_before_bracket : (text : List ℕ) → IsUtf8 text → IsCharBoundary text (prefix_len is_enclosed text)
boundary_before_bracket text utf8 = (
  prefix_len-le-length is_enclosed text,
  λ inside. (IsCharBoundary-before_ascii text _ inside (bracket_is_ascii _ (prefix_len_stops is_enclosed text 0 inside))).1 inside,
)
