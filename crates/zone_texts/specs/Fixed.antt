-- What is seen of a zone of one offset.
use Rattle.std.specs.Prelude.{ℕ, ℤ, pos, List, [], ◌∷◌}
use Rattle.civil_base.specs.Instants.{instant_at}
use Rattle.zone_texts.specs.Views.{ZoneView}

-- that offset at each instant and without a change, under a name
abbrev pub fixed_view : ℤ → List ℕ → ZoneView
fixed_view offset name = record {
  total = λ _. offset;
  readings = λ x. instant_at x offset ∷ [];
  force = λ _. record { offset = offset; saving = pos 0; name = name };
  changes = λ _ _. [];
  last_year = pos 9999;
}
