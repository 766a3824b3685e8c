use Rattle.std.proofs.{Common.{refl, arith}, lemmas.Int.{ints}}
use Rattle.zone_tzif.proofs.walk.is_constant.Goals as goal

pub returns : goal.returns
returns c = (
  λ passed s low high.
      c.pieces.invariant.alike s (omega (arith, ints, low)) (omega (arith, ints, high, c.pieces-test.false, c.pieces.from-is)),
  λ all. refl,
)
