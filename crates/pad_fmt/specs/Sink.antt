-- What a call on a sink leaves, where `text` gives the bytes so far and `room` how many still fit.
use Rattle.std.specs.Prelude.{◌≡◌, ℕ, ◌+◌, ◌<◌, List, ◌++◌, length, Result, MatchResult}
use Rattle.pad_fmt.specs.declared.sink.Full.{Full}

module _ {S : Type 0} (text : S → List ℕ) (room : S → ℕ) (old new : S) (bytes : List ℕ) where
  -- the sink took exactly these bytes
  pub record Took : Type 0 where
    pub appended : text new ≡ text old ++ bytes
    pub left : room new + length bytes ≡ room old

  -- the bytes don't fit, and nothing changed
  pub record TookNothing : Type 0 where
    pub too_long : room old < length bytes
    pub unchanged : new ≡ old

-- the bytes don't fit, and the sink took some of them, from the first on
pub record TookPrefix {S : Type 0} (text : S → List ℕ) (room : S → ℕ) (old new : S) (bytes : List ℕ) : Type 0 where
  pub too_long : room old < length bytes
  pub prefix : List ℕ
  pub rest : List ℕ
  pub whole : prefix ++ rest ≡ bytes
  pub took : Took text room old new prefix

-- one piece: Ok exactly where the bytes fit, which the sink then took, and else Full, and no change
abbrev pub Wrote : {S : Type 0} → (S → List ℕ) → (S → ℕ) → S → S → List ℕ → Result (Unit {0}) Full → Type 0
Wrote text room old new bytes result =
    MatchResult result (λ _. Took text room old new bytes) (λ _. TookNothing text room old new bytes)

-- several pieces: Ok exactly where the bytes fit, which the sink then took, and else Full, and a prefix of them taken
abbrev pub WroteInPieces : {S : Type 0} → (S → List ℕ) → (S → ℕ) → S → S → List ℕ → Result (Unit {0}) Full → Type 0
WroteInPieces text room old new bytes result =
    MatchResult result (λ _. Took text room old new bytes) (λ _. TookPrefix text room old new bytes)
