-- That zones are of a table is a proposition, and that requests are of a day.
use Rattle.std.proofs.{Common.{ℕ, List, Option, Some, None}, Props.{props}}
use Rattle.zone_answers.specs.{Found.{Found}, Opened.{IsOpened}, Requests.{Request, at, local}, SameDays.{IsBefore}, declared.opened.OpenedZone.{Ghosts}, declared.opened.Zones.{Zones}, declared.same_day.SameDay.{SameDay}}
use Rattle.zone_command.specs.{Days.{IsDayOf}, Kept.{AreOf}}
use Rattle.zone_table.specs.declared.table.Table.{Table}

IsOpened-prop : {Z : Type 0} (kind : Ghosts Z) (table : Table) (name : List ℕ) (zone : Z) → IsProp (IsOpened kind table name zone)
IsOpened-prop kind table name zone = hlevel props

IsBefore-prop : (latest : ℕ) (o : Option Request) → IsProp (IsBefore latest o)
IsBefore-prop latest None = hlevel props
IsBefore-prop latest (Some (at name instant)) = hlevel props
IsBefore-prop latest (Some (local name time)) = hlevel props

pub AreOf-prop : {Z : Type 0} (kind : Ghosts Z) (table : Table) (zones : Zones Z) → IsProp (AreOf kind table zones)
AreOf-prop kind table zones = hlevel (props, IsOpened-prop kind, IsBefore-prop)

pub IsDayOf-prop : (names : List ℕ → Found) (line : List ℕ) (day : Option SameDay) → IsProp (IsDayOf names line day)
IsDayOf-prop names line day = hlevel (props, IsBefore-prop)
