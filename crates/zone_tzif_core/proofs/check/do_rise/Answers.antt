use Rattle.std.proofs.{Common.{◌∙◌, sym, int_lt, rules, FitsSigned, w64}, lemmas.Int.{to_z-of_z}}
use Rattle.zone_tzif_core.proofs.PassLemmas.{rise_kept, rise_refused, rise_end}
use Rattle.zone_tzif_core.proofs.check.do_rise.Goals as goal

pub returns-then-not-rises : goal.returns-then-not-rises
returns-then-not-rises c =
    let a : FitsSigned w64 c.time_at.result = search rules in
    let b : FitsSigned w64 c.time_at-in-loop-i.result = search rules in
    rise_refused c.args.wide c.args.count c.args.times.now c.loop-i.i c.time_at.result c.time_at-in-loop-i.result c.loop-i.auto.i c.loop-i-test.true
    c.time_at.ensures c.time_at-in-loop-i.ensures (sym c.if-not-rises.true ∙ (λ i. int_lt (to_z-of_z w64 _ a i) (to_z-of_z w64 _ b i))) c.loop-i.invariant

pub loop-i-preserved : goal.loop-i-preserved
loop-i-preserved c =
    let a : FitsSigned w64 c.time_at.result = search rules in
    let b : FitsSigned w64 c.time_at-in-loop-i.result = search rules in
    rise_kept c.args.wide c.args.count c.args.times.now c.loop-i.i c.time_at.result c.time_at-in-loop-i.result c.loop-i.auto.i c.loop-i-test.true
    c.time_at.ensures c.time_at-in-loop-i.ensures (sym c.if-not-rises.false ∙ (λ i. int_lt (to_z-of_z w64 _ a i) (to_z-of_z w64 _ b i))) c.loop-i.invariant

pub returns : goal.returns
returns c = rise_end c.args.wide c.args.count c.args.times.now c.loop-i.i c.loop-i.auto.i c.loop-i-test.false c.loop-i.invariant
