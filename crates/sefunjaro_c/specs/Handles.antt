-- What a handle's address owns: nothing, or a value on the heap with the right to free its block, as a `Box<Opened>` does.
use Rattle.std.specs.Prelude.{Option, Some, None}
use base.Fml.{Fml, ftrue}
use base.Stored.{Coded}
use denote.RawPtr.{Ptr}
use Rattle.std.specs.{Coded.{coded_option}, Box.Ownership.{box_owns}}
use Rattle.sefunjaro_c.specs.{Heap.{token}, contracts.opened.Opened.{the_row}}

abbrev pub owned_at : Ptr → Option the_row.Denot → Fml
owned_at at None = ftrue
owned_at at (Some opened) = box_owns token the_row at opened

-- by which a proof tells apart what handles hold
abbrev pub opened_coded : Coded (Option the_row.Denot)
opened_coded = coded_option the_row.coded
