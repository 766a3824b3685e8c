-- What has fired, beside what is due.
use Rattle.std.specs.{Prelude.{◌≡◌, ◌++◌, ℤ, Option, IsTrue}, List.{list_all}}
use Rattle.zone_table.specs.LineBounds.{are_small_seconds}
use Rattle.zone_spans.specs.{Bounds.{is_bounded_firing}, Firings.{Fired}, Stands.{StandsFor}, declared.firing.Firings.{Firings}}

pub record Fires (firings : Firings) (due : Fired) : Type 0 where
  pub fired : firings.fired.items ≡ due.0
  pub saving : firings.saving ≡ due.1

-- what has fired, and then those
abbrev pub after : Firings → Fired → Fired
after firings due = (firings.fired.items ++ due.0, due.1)

-- their numbers are small
pub record AreSmall (firings : Firings) : Type 0 where
  pub fired : IsTrue (list_all is_bounded_firing firings.fired.items)
  pub saving : IsTrue (are_small_seconds firings.saving)

-- they may take the place of what is due, for a line with that start
pub record StandFor (start : Option ℤ) (firings : Firings) (due : Fired) : Type 0 where
  pub fired : StandsFor start firings.fired.items due.0
  pub saving : firings.saving ≡ due.1
  pub small : AreSmall firings
