-- Names whose zones are at hand.
use Rattle.std.specs.{Prelude.{◌≡◌, ℕ, Bool, ◌||◌, List, is_some}, FinMap.{FinMap, contains_key}}
use Rattle.basics.specs.Keyed.{text_cmp}
use Rattle.zone_answers.specs.{Found.{found_in_table}, Opened.{AreOpened, table_of}, declared.opened.OpenedZone.{Ghosts}, declared.opened.Zones.{Zones}}
use Rattle.zone_command.specs.Offsets.{offset_in}
use Rattle.zone_table.specs.declared.table.Table.{Table}

-- a name that is an offset, or has a zone
abbrev pub is_kept : {Z : Type 0} → FinMap text_cmp Z → List ℕ → Bool
is_kept zones name = is_some (offset_in name) || contains_key zones name

-- opened zones, each name finding what it finds in the table
pub record AreOf {Z : Type 0} (kind : Ghosts Z) (table : Table) (zones : Zones Z) : Type 0 where
  pub opened : AreOpened kind zones
  pub found : (name : List ℕ) → found_in_table kind.read (table_of zones) name ≡ found_in_table kind.read table name
