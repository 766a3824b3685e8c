-- The zones that were asked for so far.
use Rattle.std.specs.{FinMap.{get}, Prelude.{◌≡◌, IfSome, IsSomeAnd, ℕ, List, Ok, slice_get}}
use Rattle.zone_table.specs.{BoundedTables.{IsBoundedTable}, declared.table.Table.{Table}}
use Rattle.zone_answers.specs.{Found.{found_in_table}, SameDays.{IsSameDay, front_of, last_instant}, declared.opened.Zones.{Zones}, declared.opened.OpenedZone.{Ghosts}}

-- the zone has the totals that the name finds in the table
abbrev pub IsOpened : {Z : Type 0} → Ghosts Z → Table → List ℕ → Z → Type 0
IsOpened kind table name zone = found_in_table kind.read table name ≡ Ok (kind.total_at zone)

-- a zone of the name stands at the place
abbrev pub IsPlaced : {Z : Type 0} → Ghosts Z → Table → List Z → List ℕ → ℕ → Type 0
IsPlaced kind table opened name place = IsSomeAnd (slice_get opened place) (IsOpened kind table name)

-- the table whose zones they are
abbrev pub table_of : {Z : Type 0} → Zones Z → Table
table_of zones = zones.table.now

-- they are zones of a bounded table, each at the places of its names
pub record AreOpened {Z : Type 0} (kind : Ghosts Z) (zones : Zones Z) : Type 0 where
  pub bounded : IsBoundedTable (table_of zones)
  pub each : (name : List ℕ) → IfSome (get zones.places name) (IsPlaced kind (table_of zones) zones.opened name)
  pub last : IfSome zones.last (λ last. IsPlaced kind (table_of zones) zones.opened last.name.now last.place)
  pub day : IfSome zones.day (IsSameDay (found_in_table kind.read (table_of zones)) last_instant (front_of zones.before.now))
