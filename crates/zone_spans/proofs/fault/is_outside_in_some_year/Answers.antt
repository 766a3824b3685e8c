use Rattle.std.proofs.{Common.{◌≡◌, false, sym, ap, ◌∙◌, subst, arith, rules, w64, SFits}, lemmas.Int.{to_z-of_z}}
use Rattle.zone_spans.{specs.Faults.{is_outside, some_year}, proofs.SoundLemmas.{year_at, year_more}}
use Rattle.zone_spans.proofs.fault.is_outside_in_some_year.Goals as goal

pub returns-then-is_outside : goal.returns-then-is_outside
returns-then-is_outside c =
    let fits : SFits w64 c.from.result = search rules in
    let year_is = to_z-of_z w64 c.from.result fits ∙ c.from.ensures in
    year_at (is_outside c.args.rule.now) c.args.count c.loop-i.i c.loop-i-test.true
    (ap (is_outside c.args.rule.now) (sym year_is) ∙ sym c.is_outside.ensures ∙ c.if-is_outside.true)

pub loop-i-preserved : goal.loop-i-preserved
loop-i-preserved c =
    let fits : SFits w64 c.from.result = search rules in
    let year_is = to_z-of_z w64 c.from.result fits ∙ c.from.ensures in
    year_more (is_outside c.args.rule.now) c.loop-i.i c.loop-i.invariant
    (ap (is_outside c.args.rule.now) (sym year_is) ∙ sym c.is_outside.ensures ∙ c.if-is_outside.false)

pub returns : goal.returns
returns c =
    let end : c.loop-i.i ≡ c.args.count = omega arith in
    sym (subst (λ n. some_year (is_outside c.args.rule.now) n ≡ false) end c.loop-i.invariant)
