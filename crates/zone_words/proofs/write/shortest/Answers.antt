use Rattle.std.proofs.Common.{arith}
use Rattle.zone_words.proofs.{WrittenLemmas.{kept_other, kept_zero}, write.shortest.Goals.{then-digit-ne48, else-digit-ne48}}
use Rattle.zone_words.proofs.write.shortest.Goals as goal

pub loop-place-preserved : goal.loop-place-preserved
loop-place-preserved c =
    let place = c.loop-place.place in
    let so_far = c.loop-place.invariant in
    elim c.if-digit-ne48.branch [
      | then-digit-ne48 w ↦ record {
        so_far = kept_other c.args.digits.now place c.if-digit-ne48.kept (omega arith) (omega arith) w.kept-is;
        bound = omega arith;
      }
      | else-digit-ne48 w ↦ record {
        so_far = kept_zero c.args.digits.now place c.loop-place.kept c.if-digit-ne48.kept (omega arith) (omega arith) so_far.so_far w.kept-is;
        bound = omega arith;
      }
    ]
