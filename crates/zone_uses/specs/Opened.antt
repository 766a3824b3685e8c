-- A zone from a source.
use Rattle.std.specs.Prelude.{◌≡◌, ℕ, ℤ, List}
use Rattle.sefunjaro.specs.{AnySources.{IsAnySource}, Sources.{table_in}, declared.source.OpenSource.{OpenSource}, declared.zone.OpenZone.{OpenZone}}
use Rattle.sefunjaro.specs.Zones as zones
use Rattle.zone_source.specs.Zones.{values_of}
use Rattle.zone_table.specs.{Tables.{IsTableOf}, declared.table.Table.{Table}}
use Rattle.tz_lookup.specs.{CompactShown.{seen}, Compiles.{compiled_in, IsCompiledAs}, declared.compact_set.CompactSet.{CompactSet}}

-- the set has that name, and the spans of what the name finds in the table of the source's lines
pub record IsOpened (source name : List ℕ) (set : CompactSet) : Type 0 where
  pub table : Table
  pub is_table : IsTableOf table (values_of source)
  pub is_named : (seen set).name ≡ name
  pub is_compiled : IsCompiledAs (seen set) (compiled_in table name)

-- the text is that of a source whose zone of that name, which goes on for ever where its lines do, has this total at an instant
pub record IsGivenInSource (text name : List ℕ) (t total : ℤ) : Type 0 where
  pub source : OpenSource
  pub zone : OpenZone
  pub is_source : IsAnySource text source
  pub is_zone : zones.IsOpened name (compiled_in (table_in source) name) zone
  pub goes_on : zones.GoesOnAs (table_in source) name (zones.ever_in zone)
  pub is : total ≡ zones.total_in zone t
