use Rattle.std.proofs.Common.{get_or, refl, arith, ap, length}
use Rattle.zone_tzif.{specs.Causes.{name_in}, proofs.CauseLemmas.{fits_not, fits_more, fits_end}}
use Rattle.zone_tzif.proofs.causes.do_fit.Goals as goal

pub returns-then-left-size : goal.returns-then-left-size
returns-then-left-size g c =
    let i = c.loop-number.number-index in
    fits_not (name_in (g.S.SpanTable.seen c.args.set.now)) c.args.numbers.now i (get_or c.args.numbers.now i 0) 0 c.loop-number.left (omega arith) refl
    c.loop-number.invariant _ (ap length c.name_at-size.ensures) (omega arith)

pub loop-number-preserved : goal.loop-number-preserved
loop-number-preserved g c =
    let i = c.loop-number.number-index in
    fits_more (name_in (g.S.SpanTable.seen c.args.set.now)) c.args.numbers.now i (get_or c.args.numbers.now i 0) 0 c.loop-number.left (omega arith) refl
    c.loop-number.invariant _ _ (ap length c.name_at-size.ensures) (omega arith) refl

pub returns : goal.returns
returns g c =
    fits_end (name_in (g.S.SpanTable.seen c.args.set.now)) c.args.numbers.now c.loop-number.number-index c.loop-number.left (omega arith) c.loop-number.invariant
