-- How a source line joins those before it, where a builder stands for these.
use Rattle.std.specs.Prelude.{◌≡◌, ℕ, List, [], ◌∷◌, ◌++◌, true, None}
use Rattle.zone_table.specs.{LineBounds.{is_bounded_line}, Values.{LineValue}, Built.{Built, StandsFor}}
use Rattle.zone_source.specs.{Faults.{line_refusal}, Told.{TellsOfSource}, Zones.{source_value}, declared.error.SourceError.{SourceError}}

-- whatever values the builder stood for, the nth line is not refused after them, and it now stands for them and the line's value
pub record Takes (old new : Built) (n : ℕ) (line : List ℕ) : Type 0 where
  pub accepted : (values : List LineValue) → StandsFor old values → line_refusal values n line ≡ None
  pub stands : (values : List LineValue) → StandsFor old values → StandsFor new (values ++ source_value line ∷ [])
  pub bounded : is_bounded_line (source_value line) ≡ true

-- whatever values the builder stood for, the error tells why the nth line is refused after them, or memory ran out
abbrev pub IsRefusal : Built → ℕ → List ℕ → SourceError → Type 0
IsRefusal old n line error = (values : List LineValue) → StandsFor old values → TellsOfSource (line_refusal values n line) error
