-- A test of a place and of a second at once: an entry that has come, and one that is still to come.
use Rattle.std.{proofs.Common.{◌≡◌, ℕ, ◌<◌, true, false, ℤ, ◌≤ℤ◌, ◌<ℤ◌, int_le, int_lt, ltb, arith}, specs.Prelude.{◌&&◌}, proofs.lemmas.Int.{ints}, proofs.lemmas.Bool.Decides.{nat_tests}}

pub ended_false : (i n : ℕ) (e x : ℤ) → ltb i n && int_le e x ≡ false → i < n → x <ℤ e
ended_false i n e x h l = grind (arith, nat_tests, ints)

pub ended_true : (i n : ℕ) (e x : ℤ) → ltb i n && int_le e x ≡ true → (i < n) × (e ≤ℤ x)
ended_true i n e x h = (grind (arith, nat_tests, ints), grind (arith, nat_tests, ints))

pub not_ended : (i n : ℕ) (e x : ℤ) → (i < n → x <ℤ e) → ltb i n && int_le e x ≡ false
not_ended i n e x h = grind (arith, nat_tests, ints)

pub is_ended : (i n : ℕ) (e x : ℤ) → i < n → e ≤ℤ x → ltb i n && int_le e x ≡ true
is_ended i n e x h k = grind (arith, nat_tests, ints)

pub ahead_false : (i : ℕ) (s x : ℤ) → ltb 0 i && int_lt x s ≡ false → 0 < i → s ≤ℤ x
ahead_false i s x h l = grind (arith, nat_tests, ints)

pub ahead_true : (i : ℕ) (s x : ℤ) → ltb 0 i && int_lt x s ≡ true → (0 < i) × (x <ℤ s)
ahead_true i s x h = (grind (arith, nat_tests, ints), grind (arith, nat_tests, ints))

pub not_ahead : (i : ℕ) (s x : ℤ) → (0 < i → s ≤ℤ x) → ltb 0 i && int_lt x s ≡ false
not_ahead i s x h = grind (arith, nat_tests, ints)

pub is_before : (i : ℕ) (s x : ℤ) → 0 < i → x <ℤ s → ltb 0 i && int_lt x s ≡ true
is_before i s x h k = grind (arith, nat_tests, ints)
