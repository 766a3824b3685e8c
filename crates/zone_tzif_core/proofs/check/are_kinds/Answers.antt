use Rattle.std.proofs.Common.{◌≤◌, arith}
use Rattle.zone_tzif_core.{specs.Shown.{record_shown}, proofs.PassLemmas.{kinds_kept, kinds_refused, kinds_end, seen}}
use Rattle.zone_tzif_core.proofs.check.are_kinds.Goals as goal

pub returns-then-is_none : goal.returns-then-is_none
returns-then-is_none c =
    kinds_refused c.args.names.now c.args.count c.args.records.now c.loop-i.i c.loop-i-test.true
    (seen record_shown c.read_record-record.result _ _ c.read_record-record.ensures c.if-is_none.ensures) c.loop-i.invariant

pub loop-i-preserved : goal.loop-i-preserved
loop-i-preserved c =
    kinds_kept c.args.names.now c.args.count c.args.records.now c.loop-i.i c.loop-i-test.true
    (seen record_shown c.read_record-record.result _ _ c.read_record-record.ensures c.if-is_none.ensures) c.loop-i.invariant

pub returns : goal.returns
returns c =
    let over : c.args.count ≤ c.loop-i.i = omega arith in
    kinds_end c.args.names.now c.args.count c.args.records.now c.loop-i.i over c.loop-i.invariant
