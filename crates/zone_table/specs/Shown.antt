-- The entries of the hierarchy of names, with their texts as bytes.
use Rattle.std.specs.Prelude.{map}
use Rattle.zone_table.specs.{NameTree.{ChildValue, submodule, time_zone, EntryValue}, declared.structure.TableStructureEntry.{TableStructureEntry}}
use Rattle.zone_table.specs.declared.structure.Child as code
use Rattle.zone_table.specs.declared.structure.Child.TheVariants as child

abbrev pub child_value : code.Child → ChildValue
child_value (child.Submodule name) = submodule name.now
child_value (child.TimeZone name) = time_zone name.now

abbrev pub entry_value : TableStructureEntry → EntryValue
entry_value entry = record { name = entry.name.now; children = map child_value entry.children.items }
