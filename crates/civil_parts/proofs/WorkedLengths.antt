-- The definitions evaluated on lengths that are known from outside.
use Rattle.std.proofs.Common.{◌≡◌, refl, [], ◌∷◌, map, true, false, pos, neg_ℤ}
use Rattle.civil_parts.specs.Durations.{longest, shortest, whole_seconds, whole_days, are_parts}

-- 2^63 - 1 seconds and 999,999,999 nanoseconds, and as many below zero with one second more
worked_ends : longest ∷ shortest ∷ [] ≡ pos 9223372036854775807999999999 ∷ neg_ℤ (pos 9223372036854775808999999999) ∷ []
worked_ends = refl

-- cut towards zero
worked_wholes : map whole_seconds (pos 1999999999 ∷ neg_ℤ (pos 1999999999) ∷ neg_ℤ (pos 2000000000) ∷ []) ≡ pos 1 ∷ neg_ℤ (pos 1) ∷
    neg_ℤ (pos 2) ∷ []
worked_wholes = refl

worked_days : map whole_days (pos 86399999999999 ∷ neg_ℤ (pos 86399999999999) ∷ neg_ℤ (pos 86400000000000) ∷ []) ≡ pos 0 ∷ pos 0 ∷
    neg_ℤ (pos 1) ∷ []
worked_days = refl

worked_parts : are_parts (pos 1) (pos 999999999) ∷ are_parts (pos 1) (neg_ℤ (pos 1)) ∷ are_parts (neg_ℤ (pos 1)) (pos 1)
    ∷ are_parts (neg_ℤ (pos 1)) (neg_ℤ (pos 999999999)) ∷ are_parts (pos 0) (neg_ℤ (pos 1)) ∷ are_parts (pos 0) (pos 1000000000) ∷ []
    ≡ true ∷ false ∷ false ∷ true ∷ true ∷ false ∷ []
unfolding are_parts
worked_parts = refl
