-- Cases that can't be, and the number behind another.
use Rattle.std.proofs.Common.{◌≡◌, ℕ, zero, suc, ◌+◌, Result, Ok, Err, arith}

pub no_zero : {n : ℕ} → zero ≡ suc n → ⊥
no_zero e = cc

pub not_ok : {A E : Type 0} → {x : A} → {e : E} → ◌≡◌ {A = Result A E} (Err e) (Ok x) → ⊥
not_ok same = cc

pub next : (n : ℕ) → suc n ≡ n + 1
next n = omega arith
