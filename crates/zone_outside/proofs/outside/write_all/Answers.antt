use Rattle.std.proofs.Common.{arith}
use Rattle.std.proofs.lemmas.List.{take_rest}
use Rattle.zone_outside.proofs.Loops.{taken_more}
use Rattle.zone_outside.proofs.outside.write_all.Goals as goal

pub writing-preserved : goal.writing-preserved
writing-preserved g c = record {
  within = omega (arith, c.in_ok-at.ensures.bound);
  taken = taken_more c.args.bytes.now _ c.writing.at c.in_ok-at.field-0 _ _ _ (take_rest c.args.bytes.now c.writing.at)
      c.writing.invariant.taken c.in_ok-at.ensures.bytes;
  faults = omega (arith, c.in_ok-at.ensures.cause.later);
}
