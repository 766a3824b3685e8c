-- Compiled zones, with texts by their bytes.
use Rattle.std.specs.Prelude.{ℕ, ℤ, pos, neg_ℤ, int_le, int_lt, Bool, true, ◌&&◌, List, [], ◌∷◌, map}

pub record KindValue : Type 0 where
  pub utoff : ℤ
  pub is_dst : Bool
  pub name : List ℕ

pub record ZoneValue : Type 0 where
  pub first : KindValue
  pub rest : List (ℤ × KindValue)
  pub footer : List ℕ

-- the seconds of the largest offset, 25:59:59: it is civil_base's, with a name of its own here, since these readers of RFC 8536
-- stand on no other crate
abbrev pub greatest_utoff : ℕ
greatest_utoff = 93599

-- at most that in size
abbrev pub is_small : ℤ → Bool
is_small x = int_le (neg_ℤ (pos greatest_utoff)) x && int_le x (pos greatest_utoff)

-- each is before the next
abbrev pub go_up : List ℤ → Bool
go_up [] = true
go_up (x ∷ []) = true
go_up (x ∷ y ∷ rest) = int_lt x y && go_up (y ∷ rest)

-- the times strictly rise
abbrev pub rises : List (ℤ × KindValue) → Bool
rises shifts = go_up (map (λ shift. shift.0) shifts)
