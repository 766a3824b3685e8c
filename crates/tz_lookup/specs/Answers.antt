-- The values of an answer, in order.
use Rattle.std.specs.Prelude.{◌≡◌, ℕ, ◌+◌, ◌≤◌, List, [], ◌∷◌}
use Rattle.tz_lookup.specs.declared.time_zone.OffsetResult.{OffsetResult, TheVariants.{Some, Ambiguous, None}}

abbrev pub listed : {T : Type 0} → OffsetResult T → List T
listed (Some a) = a ∷ []
listed (Ambiguous a b) = a ∷ b ∷ []
listed None = []

-- each value has the property
abbrev pub EachOf : {T : Type 0} → (T → Type 0) → OffsetResult T → Type 0
EachOf P (Some a) = P a
EachOf P (Ambiguous a b) = P a × P b
EachOf P None = Unit {0}

-- there is a value for each, in the same order, of which P holds beside it
abbrev pub AreMapped : {T U : Type 0} → (T → U → Type 0) → OffsetResult T → OffsetResult U → Type 0
AreMapped P (Some a) (Some b) = P a b
AreMapped P (Ambiguous a b) (Ambiguous c d) = P a c × P b d
AreMapped P None None = Unit {0}
AreMapped P _ _ = ⊥

-- where there are two, the second comes right after the first
abbrev pub AreAdjacent : OffsetResult ℕ → Type 0
AreAdjacent (Some a) = Unit {0}
AreAdjacent (Ambiguous a b) = b ≡ a + 1
AreAdjacent None = Unit {0}

-- each index is at most n
abbrev pub IsUpTo : ℕ → OffsetResult ℕ → Type 0
IsUpTo n = EachOf (λ k. k ≤ n)
