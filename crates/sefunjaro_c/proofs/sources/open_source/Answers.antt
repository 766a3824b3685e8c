use Rattle.std.proofs.Common.{sym, subst}
use Rattle.sefunjaro_c.{specs.Faults.{source_due, IsRefused}, specs.Opened.{IsSourceOf}, proofs.FaultLemmas.{held_source, none_due, source_refused}}
use Rattle.sefunjaro_c.proofs.sources.open_source.Goals as goal

pub returns-in-Ok-source-clause-ok : goal.returns-in-Ok-source-clause-ok
returns-in-Ok-source-clause-ok c =
    held_source (IsSourceOf c.args.text.now) c.in-Ok.source c.in-Ok-source.opened.value
    (record {
      valid = none_due c.args.text.now c.in-Ok.ensures.short c.in-Ok.ensures.ok;
      table = c.in-Ok.ensures.table;
      release = c.in-Ok.ensures.release;
    })
    c.in-Ok-source.ensures

pub returns-in-Err-clause-err : goal.returns-in-Err-clause-err
returns-in-Err-clause-err c =
    subst (IsRefused (source_due c.args.text.now)) (sym c.opening_fault.ensures) (source_refused c.args.text.now c.in-Err.fault c.in-Err.ensures.err)
