-- A part of a loan may go to another thread, as a `&` to what is lent may.
use base.Shift.{Keyless}
use denote.Param.Send.{AllSend, IsSend, owning_send, sendable, struct_send}
use denote.RawPtr.{Ptr}
use denote.Struct.Owning.{fields, shape, to}
use denote.Struct.Struct.{exits_of}
use Rattle.std.specs.Prelude.{Option, Some, None}
use Rattle.std_alloc.proofs.SendSync.{quiet, seen}
use Rattle.sefunjaro_c.{specs.Loans.{Loan, loan_owns}, proofs.opened.Opened.TheSendSync.{the_sync as a_value}}
use Rattle.sefunjaro_c.specs.contracts.opened.Opened as Opened
use Rattle.sefunjaro_c.specs.contracts.view.Part as Part

goes : (at : Ptr) (held : Option Opened.the_row.Denot) (loan : Loan) → Keyless (loan_owns at held loan)
goes at None loan = tt
goes at (Some value) loan = (tt, seen Opened.the_row a_value at value loan.0)

pub send : IsSend Part.the_row
send =
    let one : AllSend (fields Part.the_type) = search sendable in
    owning_send Part.the_type one (λ part. goes part.at part.opened part.loan)
    (λ exit. quiet (to Part.the_type) (exits_of exit (fields Part.the_type)) ((struct_send (shape Part.the_type) one).leaving exit))
