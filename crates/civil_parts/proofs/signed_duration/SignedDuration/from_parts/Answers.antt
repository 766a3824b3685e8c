use Rattle.std.proofs.Common.{arith, ◌≡◌, ◌≤◌, true, ℤ, pos, ◌+ℤ◌, ◌*ℤ◌, to_z, of_z, to_z-of_z, FitsSigned, w32, w64, unsigned_abs, ◌∙◌, sym}
use mir.Syntax.{w128}
use Rattle.std.proofs.lemmas.Bool.{and_parts, leb-true}
use Rattle.basics.specs.SignedLaws.{signed_casts, one_sided}
use Rattle.civil_parts.specs.Durations.{IsDuration, are_parts}
use Rattle.civil_parts.proofs.signed_duration.SignedDuration.from_parts.Goals as goal

small : (s n : ℤ) → are_parts s n ≡ true → unsigned_abs n ≤ 999999999
unfolding are_parts
small s n h = leb-true _ _ (and_parts _ _ (and_parts _ _ h).0).0

-- seconds of 64 bits and less than a second make a length
is_length : (s n : ℤ) → FitsSigned w64 s → unsigned_abs n ≤ 999999999 → IsDuration (s *ℤ pos 1000000000 +ℤ n)
is_length s n f h = record {
  least = omega (arith, signed_casts, one_sided n);
  greatest = omega (arith, signed_casts, one_sided n);
}

-- what the code computes
abbrev Computed : ℤ → ℤ → ℤ → ℤ → Type 0
Computed s n a b =
    to_z w128 (of_z w128 (to_z w128 (of_z w128 (to_z w128 (of_z w128 a) *ℤ pos 1000000000)) +ℤ to_z w128
    (of_z w128 b))) ≡ s *ℤ pos 1000000000 +ℤ n

computed : (s n a b : ℤ) → FitsSigned w64 s → unsigned_abs n ≤ 999999999 → a ≡ s → b ≡ n → Computed s n a b
computed s n a b f h e k = omega (arith, signed_casts, one_sided n)

-- the parts as the code tests them
tested : (s n : ℤ) → FitsSigned w64 s → FitsSigned w32 n → true ≡ are_parts (to_z w64 (of_z w64 s)) (to_z w32 (of_z w32 n))
    → are_parts s n ≡ true
tested s n f g h = sym (rw (to_z-of_z f, to_z-of_z g) at h)

parts_of : (c : goal.After-from_whole_nanoseconds) → are_parts c.args.seconds c.args.nanoseconds ≡ true
parts_of c = tested c.args.seconds c.args.nanoseconds c.ranges.seconds c.ranges.nanoseconds c.if-are_parts.ensures

computed_of : (c : goal.After-from_whole_nanoseconds) → Computed c.args.seconds c.args.nanoseconds c.from.result
    c.from-then-are_parts.result
computed_of c =
    computed c.args.seconds c.args.nanoseconds c.from.result c.from-then-are_parts.result c.ranges.seconds
    (small c.args.seconds c.args.nanoseconds (parts_of c))
    (c.from.ensures ∙ to_z-of_z c.ranges.seconds) (c.from-then-are_parts.ensures ∙ to_z-of_z c.ranges.nanoseconds)

pub returns-then-are_parts-clause-has : goal.returns-then-are_parts-clause-has
returns-then-are_parts-clause-has c =
    let length = is_length c.args.seconds c.args.nanoseconds c.ranges.seconds (small c.args.seconds c.args.nanoseconds (parts_of c)) in
    c.from_whole_nanoseconds.ensures.has.1 (rw (computed_of c) length) ∙ sym (parts_of c)

pub returns-then-are_parts-clause-value : goal.returns-then-are_parts-clause-value
returns-then-are_parts-clause-value c = rw (computed_of c) at c.from_whole_nanoseconds.ensures.value
