use Rattle.std.proofs.Common.{arith, ◌≡◌, length, true, ℤ, pos, ◌<ℤ◌, to_z, of_z, FitsSigned, w32, sym, ap, ◌∙◌}
use Rattle.basics.specs.SignedLaws.{signed_casts}
use Rattle.civil_base.specs.LayoutLaws.{year_sign-negative, year_sign-other}
use lib.Signed.{lt_z}
use Rattle.civil_base.proofs.read.put_sign.Goals as goal

below : (y : ℤ) → FitsSigned w32 y → lt_z (to_z w32 (of_z w32 y)) (pos 0) ≡ true → y <ℤ pos 0
below y f h = omega (arith, signed_casts)

pub returns-then-year-lt0-clause-text : goal.returns-then-year-lt0-clause-text
returns-then-year-lt0-clause-text c =
    c.put.ensures.text ∙ sym (year_sign-negative c.args.year (below c.args.year c.ranges.year c.if-year-lt0.true))

pub returns-then-year-lt0-clause-end : goal.returns-then-year-lt0-clause-end
returns-then-year-lt0-clause-end c =
    c.put.ensures.end ∙ ap length (sym (year_sign-negative c.args.year (below c.args.year c.ranges.year c.if-year-lt0.true)))

pub returns-else-year-lt0-clause-text : goal.returns-else-year-lt0-clause-text
returns-else-year-lt0-clause-text c =
    sym (year_sign-other c.args.year (omega (arith, signed_casts)))

pub returns-else-year-lt0-clause-end : goal.returns-else-year-lt0-clause-end
returns-else-year-lt0-clause-end c =
    ap length (sym (year_sign-other c.args.year (omega (arith, signed_casts))))
