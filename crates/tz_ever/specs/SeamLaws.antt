-- Whole cycles past the seam, by their bounds.
use Rattle.std.proofs.{Common.{◌≡◌, arith, ℕ, zero, suc, ◌*◌, ◌/◌, ◌≤◌, ◌<◌, ℤ, pos, ◌+ℤ◌, ◌-ℤ◌, ◌≤ℤ◌, ◌<ℤ◌, int_lt, true, unsigned_abs, inl, inr, ap, ◌∙◌}, lemmas.Bool.{cases_Bool}}
use Rattle.basics.specs.{ComparisonLaws.{lt_from_fail, lt_from_pass}, SignedLaws.{signed, natural}}
use Rattle.tz_ever.specs.Seam.{brought_back, cycles_past, next_seam, seam}

-- so many whole cycles lie between the seam and x
pub record ArePast (x : ℤ) (k : ℕ) : Type 0 where
  pub begun : 0 < k → (seam +ℤ pos (k * 12622780800000000000)) ≤ℤ x
  pub not_over : x <ℤ (seam +ℤ pos (suc k * 12622780800000000000))

whole_of : (a : ℕ) → a / 12622780800000000000 * 12622780800000000000 ≤ a
whole_of a = omega arith

next_of : (a : ℕ) → a < suc (a / 12622780800000000000) * 12622780800000000000
next_of a = omega arith

between : (x : ℤ) (a k : ℕ) → x -ℤ seam ≡ pos a → k * 12622780800000000000 ≤ a → a < suc k * 12622780800000000000 → ArePast x k
between x a k e low high = record {
  begun = λ _. omega (arith, signed);
  not_over = omega (arith, signed);
}

early : (x : ℤ) → x <ℤ seam → ArePast x 0
early x h = record {
  begun = λ p. absurd (omega arith);
  not_over = omega (arith, signed);
}

pub cycles_past-are : (x : ℤ) → ArePast x (cycles_past x)
unfolding cycles_past
cycles_past-are x =
    let a = unsigned_abs (x -ℤ seam) in
    elim (cases_Bool (int_lt x seam)) [
      | inl before ↦ rw before (early x (lt_from_pass x seam before))
      | inr after ↦
          let from : seam ≤ℤ x = lt_from_fail x seam after in
          let is : x -ℤ seam ≡ pos a = natural (x -ℤ seam) (omega (arith, signed)) in
          rw after (between x a (a / 12622780800000000000) is (whole_of a) (next_of a))
    ]

-- there is one such number
only : (x : ℤ) (k j : ℕ) → ArePast x k → ArePast x j → k ≤ j
only x zero j h g = omega arith
only x (suc k) j h g =
    let begun = h.begun (omega arith) in
    omega (arith, signed, begun, g.not_over)

le_le : (k j : ℕ) → k ≤ j → j ≤ k → k ≡ j
le_le k j h g = omega arith

pub one_number : (x : ℤ) (k : ℕ) → ArePast x k → cycles_past x ≡ k
one_number x k h = le_le (cycles_past x) k (only x (cycles_past x) k (cycles_past-are x) h) (only x k (cycles_past x) h (cycles_past-are x))

pub back_by : (x : ℤ) (k : ℕ) → ArePast x k → brought_back x ≡ x -ℤ pos (k * 12622780800000000000)
unfolding brought_back
back_by x k h = ap (λ n. x -ℤ pos (n * 12622780800000000000)) (one_number x k h)

none_is : (x : ℤ) → x -ℤ pos (0 * 12622780800000000000) ≡ x
none_is x = omega (arith, signed)

-- before the next seam nothing changes
pub back_is : (x : ℤ) → int_lt x next_seam ≡ true → brought_back x ≡ x
back_is x h =
    let early : x <ℤ next_seam = lt_from_pass x next_seam h in
    back_by x 0 (record { begun = λ p. absurd (omega arith); not_over = omega (arith, signed, early) }) ∙ none_is x
