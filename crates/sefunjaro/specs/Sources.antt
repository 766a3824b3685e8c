-- What is seen of a source that is kept open.
use Rattle.std.specs.Prelude.{ℕ, List, Option}
use Rattle.zone_table.specs.declared.table.Table.{Table}
use Rattle.sefunjaro.specs.{Releases.{if_some}, declared.source.OpenSource.{OpenSource}}

-- the table of its lines
abbrev pub table_in : OpenSource → Table
table_in source = source.table

-- the release that it names
abbrev pub release_in : OpenSource → Option (List ℕ)
release_in source = if_some source.release
