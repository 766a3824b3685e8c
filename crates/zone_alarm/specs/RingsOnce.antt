-- What is said of rings in a user's words: at most one a day, at the first instant, and none in a gap.
use Rattle.std.specs.Prelude.{◌≡◌, ◌≢◌, ℕ, Option, None, IfSome, ℤ, pos, ◌+ℤ◌, ◌*ℤ◌, ◌≤ℤ◌}
use Rattle.zone_alarm.specs.Rings.{time_on}

-- the clocks of a zone of these totals show the local time x at the instant t
abbrev pub IsRead : (ℤ → ℤ) → ℤ → ℤ → Type 0
IsRead total x t = (t +ℤ pos 1000000000 *ℤ total t) ≡ x

-- a ring at an instant with an offset: clocks show the local time then, at the offset in force, and not before
pub record IsFirst (total : ℤ → ℤ) (x : ℤ) (ring : ℤ × ℤ) : Type 0 where
  pub read : IsRead total x ring.0
  pub offset : ring.1 ≡ total ring.0
  pub earliest : (t : ℤ) → IsRead total x t → ring.0 ≤ℤ t

-- a day without a ring is one on which clocks skip the time; on every other it rings once, at the first instant
pub record RingsOnce (total : ℤ → ℤ) (at : ℕ) (shown : ℤ × Option (ℤ × ℤ)) : Type 0 where
  pub gap : shown.1 ≡ None → (t : ℤ) → ¬ IsRead total (time_on shown.0 at) t
  pub first : IfSome shown.1 (IsFirst total (time_on shown.0 at))

-- two days don't ring at one instant
abbrev pub AreApart : ℤ × Option (ℤ × ℤ) → ℤ × Option (ℤ × ℤ) → Type 0
AreApart a b = IfSome a.1 (λ r. IfSome b.1 (λ s. r.0 ≢ s.0))
