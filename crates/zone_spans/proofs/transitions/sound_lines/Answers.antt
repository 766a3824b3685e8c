use Rattle.std.{proofs.Common.{sym, ap, ◌∙◌}, specs.FinMap.{get}}
use Rattle.zone_spans.{specs.Faults.{line_fault}, proofs.CompiledLemmas.{unknown_due, fault_due, rest_due, all_sound}}
use Rattle.zone_spans.proofs.transitions.sound_lines.Goals as goal

pub returns-clause-err : goal.returns-clause-err
returns-clause-err c = unknown_due c.args.years (get c.args.table.now.rulesets) c.args.infos.now c.in-Err.fault c.in-Err.ensures.err

pub returns-in-Ok-Some-clause-err : goal.returns-in-Ok-Some-clause-err
returns-in-Ok-Some-clause-err c =
    fault_due c.args.years (get c.args.table.now.rulesets) c.args.infos.now c.as_slice.result.now c.in-Ok-Some.fault
    (c.as_slice.ensures ∙ c.in-Ok.ensures.ok)
    c.in-Ok.ensures.known (sym c.in-Ok-Some.ensures ∙ c.in-Ok-Some.field-0-is)

pub returns-in-Ok-None-clause-sound : goal.returns-in-Ok-None-clause-sound
returns-in-Ok-None-clause-sound c =
    let none = ap (line_fault c.args.years c.args.infos.now) (sym c.as_slice.ensures) ∙ sym c.in-Ok-None.ensures ∙ c.in-Ok-None.field-0-is in
    all_sound c.args.years c.args.infos.now c.in-Ok.lines c.in-Ok.ensures.bounded none

pub returns-in-Ok-None-clause-due : goal.returns-in-Ok-None-clause-due
returns-in-Ok-None-clause-due c =
    let none = ap (line_fault c.args.years c.args.infos.now) (sym c.as_slice.ensures) ∙ sym c.in-Ok-None.ensures ∙ c.in-Ok-None.field-0-is in
    rest_due c.args.years (get c.args.table.now.rulesets) c.args.infos.now c.in-Ok.lines c.in-Ok.ensures.ok c.in-Ok.ensures.known none
