use Rattle.std.proofs.Common.{arith, ◌≡◌, ℤ, ◌+ℤ◌, to_z, of_z}
use mir.Syntax.{w128}
use Rattle.basics.specs.SignedLaws.{signed_casts}
use Rattle.civil_parts.specs.Durations.{IsDuration}
use Rattle.civil_parts.proofs.signed_duration.SignedDuration.checked_add.Goals as goal

-- what the code computes
abbrev computed : ℤ → ℤ → ℤ
computed a b = to_z w128 (of_z w128 (to_z w128 (of_z w128 a) +ℤ to_z w128 (of_z w128 b)))

-- 128 bits hold it
holds : (a b x y : ℤ) → IsDuration a → IsDuration b → a ≡ x → b ≡ y → computed a b ≡ x +ℤ y
holds a b x y f g d e = omega (arith, signed_casts, f.least, f.greatest, g.least, g.greatest)

pub returns-clause-has : goal.returns-clause-has
returns-clause-has c = rw (holds _ _ _ _ c.self.invariant c.rhs.invariant c.self.view_is c.rhs.view_is) at c.from_whole_nanoseconds.ensures.has

pub returns-clause-value : goal.returns-clause-value
returns-clause-value c = rw (holds _ _ _ _ c.self.invariant c.rhs.invariant c.self.view_is c.rhs.view_is) at c.from_whole_nanoseconds.ensures.value
