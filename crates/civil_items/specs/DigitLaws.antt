-- Two of one number of digits are one value.
use Rattle.std.proofs.Common.{◌≡◌, ℕ, ◌<◌, subst}
use denote.Struct.Props.{props}
use Rattle.civil_items.specs.{DigitRange.{IsDigits}, declared.digits.Digits.{Digits}}

-- that a number is in range has one proof
one_range : (n : ℕ) → IsProp (IsDigits n)
one_range n x y =
    let least_prop : IsProp (0 < n) = hlevel props in
    let greatest_prop : IsProp (n < 256) = hlevel props in
    λ i. record { least = least_prop x.least y.least i; greatest = greatest_prop x.greatest y.greatest i }

abbrev Same : Digits → ℕ → Type 0
Same a n = (range : IsDigits n) → a ≡ record { number = n; in_range = range }

same_range : (a : Digits) → Same a a.number
same_range a range = λ i. record { number = a.number; in_range = one_range a.number a.in_range range i }

pub one_number : (a b : Digits) → a.number ≡ b.number → a ≡ b
one_number a b e = subst (Same a) e (same_range a) b.in_range
