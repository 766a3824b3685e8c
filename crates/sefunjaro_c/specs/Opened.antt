-- What is opened.
use Rattle.std.specs.Prelude.{◌≡◌, ℕ, List, None, IfSome}
use Rattle.zone_table.specs.{Tables.{IsTableOf}, declared.table.Table.{Table}}
use Rattle.zone_source.specs.{Releases.{release_of}, Zones.{values_of}}
use Rattle.tz_lookup.specs.{Compiles.{compiled_in}, Sets.{schedule_of, IsAccepted}}
use Rattle.sefunjaro.specs.{Sources.{table_in, release_in}, Zones.{ever_in, origin_in, set_in, GoesOnAs, IsAsCompiled, IsOpened}, declared.source.OpenSource.{OpenSource}, declared.zone.OpenZone.{OpenZone}, declared.zone.Origin.TheVariants.{Source}}
use Rattle.sefunjaro_c.specs.{declared.view.View.{View}, Faults.{source_due}}

-- the source is that of a text with no fault, with the release that the text names
pub record IsSourceOf (text : List ℕ) (source : OpenSource) : Type 0 where
  pub valid : source_due text ≡ None
  pub table : IsTableOf (table_in source) (values_of text)
  pub release : release_in source ≡ release_of text

-- the zone is what a table's lines under a name are compiled to, and can be looked up; and it goes on for ever where they do
pub record IsZoneOf (table : Table) (name : List ℕ) (zone : OpenZone) : Type 0 where
  pub opened : IsOpened name (compiled_in table name) zone
  pub accepted : IsAccepted (schedule_of (set_in zone))
  pub goes_on : GoesOnAs table name (ever_in zone)
  pub as_compiled : IsAsCompiled zone
  pub origin : origin_in zone ≡ Source

-- a view lends what it lent before, if anything
abbrev pub StaysLent : View → View → Type 0
StaysLent old new = (new.part.opened ≡ old.part.opened) × IfSome old.part.opened (λ _. new.part.loan ≡ old.part.loan)
