-- What is seen of a zone of a chart.
use Rattle.std.specs.Prelude.{ℕ, List}
use Rattle.zone_texts.specs.{Views.{ZoneView}, declared.zone.ChartZone.{ChartZone}}

-- a zone under a name
pub record Named : Type 0 where
  pub name : List ℕ
  pub view : ZoneView

abbrev pub named : {Z : Type 0} → (Z → ZoneView) → ChartZone Z → Named
named view charted = record { name = charted.name.now; view = view charted.zone }
