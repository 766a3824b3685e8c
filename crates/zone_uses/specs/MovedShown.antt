-- What a zone of one change shows.
use Rattle.std.specs.Prelude.{ℕ, List, ℤ}
use Rattle.civil_base.specs.DateTimes.{instant}
use Rattle.zone_uses.specs.{Moves.{total_around}, declared.moved.Moved.{Moved}}

abbrev pub name_shown : Moved → List ℕ
name_shown zone = zone.name.now

-- its total offset at each instant
unfoldable pub total_shown : Moved → ℤ → ℤ
total_shown zone = total_around (instant zone.change) zone.before zone.after
