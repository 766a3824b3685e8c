-- Values of one kind, of which one is in use.
use Rattle.std.specs.Prelude.{All}
use Rattle.zone_spans.specs.declared.several.Several.{Several}

-- P holds of the one in use, and of each of the others
pub record AreAll {T : Type 0} (P : T → Type 0) (several : Several T) : Type 0 where
  pub current : P several.current
  pub others : All P several.others.items
