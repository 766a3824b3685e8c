-- What a last line fires, cut where the cycle begins.
use Rattle.std.specs.Prelude.{◌≡◌, ℕ, ◌≤◌, List, length, take, drop}
use Rattle.zone_spans.specs.{Firings.{Firing}, Later.{first_fired, later_fired}, Lines.{Line}}

-- so many of the firings are those of the 300 years to 2099, and the others those of the cycle
pub record IsCut (line : Line) (count : ℕ) (fired : List Firing) : Type 0 where
  pub most : count ≤ length fired
  pub before : take count fired ≡ (first_fired line 300).0
  pub later : drop count fired ≡ later_fired line 300 400
