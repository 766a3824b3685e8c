-- An address may go to another thread, as what lies there may.
use base.Shift.{Keyless}
use mir.Raw.{raw as bare}
use denote.Memory.{lone}
use denote.Param.Send.{AllSend, IsSend, owning_send, sendable, struct_send}
use denote.RawPtr.{Ptr}
use denote.Struct.Owning.{fields, shape, to}
use denote.Struct.Struct.{exits_of}
use Rattle.std.{proofs.Crossing.{frees}, specs.Prelude.{Option, Some, None}}
use Rattle.sefunjaro_c.{specs.{Heap.{the_heap}, Handles.{owned_at}}, proofs.opened.Opened.TheSendSync.{the_send as a_value}}
use Rattle.sefunjaro_c.specs.contracts.opened.Opened as Opened
use Rattle.sefunjaro_c.specs.contracts.handle.Held as Held
use Rattle.std_alloc.proofs.SendSync.{lies, quiet}

goes : (at : Ptr) (held : Option Opened.the_row.Denot) → Keyless (owned_at at held)
goes at None = tt
goes at (Some value) = (lies Opened.the_row a_value at value, frees.frees the_heap (bare (lone Opened.the_row.mir)) at)

pub send : IsSend Held.the_row
send =
    let one : AllSend (fields Held.the_type) = search sendable in
    owning_send Held.the_type one (λ held. goes held.at held.opened)
    (λ exit. quiet (to Held.the_type) (exits_of exit (fields Held.the_type)) ((struct_send (shape Held.the_type) one).leaving exit))
