use Rattle.std.proofs.Common.{sym, subst}
use Rattle.sefunjaro_c.{specs.AnySources.{any_due, IsAnySourceOf}, specs.Faults.{IsRefused}, proofs.AnySourceLemmas.{any_opened, any_refused}, proofs.FaultLemmas.{held_source}}
use Rattle.sefunjaro_c.proofs.any_source.open_any.Goals as goal

pub returns-in-Ok-source-clause-ok : goal.returns-in-Ok-source-clause-ok
returns-in-Ok-source-clause-ok c =
    held_source (IsAnySourceOf c.args.text.now) c.in-Ok.source c.in-Ok-source.opened.value
    (any_opened c.args.text.now c.in-Ok.source c.in-Ok.ensures.ok c.in-Ok.ensures.release) c.in-Ok-source.ensures

pub returns-in-Err-clause-err : goal.returns-in-Err-clause-err
returns-in-Err-clause-err c =
    subst (IsRefused (any_due c.args.text.now)) (sym c.any_fault.ensures) (any_refused c.args.text.now c.in-Err.fault c.in-Err.ensures.err)
