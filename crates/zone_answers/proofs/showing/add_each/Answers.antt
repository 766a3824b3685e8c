use Rattle.std.proofs.{Common.{ap, arith, length, map, take, rules, subst, sym, ◌∙◌}, lemmas.List.{take_all}}
use Rattle.civil_base.specs.Layout.{local_text}
use Rattle.tz_lookup.specs.{AllLeft.{all_left}, InForce.{shown_of}}
use Rattle.zone_answers.proofs.ShowingLemmas.{AreAt, all_at}
use Rattle.zone_answers.proofs.showing.add_each.Goals as goal

pub loop-date-init : goal.loop-date-init
loop-date-init g c =
    let all = ap (λ left. map shown_of (all_left left)) c.into_iter-date-iterator.ensures.into_iter_gives ∙ c.new-date-items.ensures.all in
    (search rules, take_all _ _ (omega arith), subst (AreAt c.args.local.now) (sym all) (all_at (g.T.TimeZone.total_at c.args.zone.now) c.args.local.now))

pub add_spelled-requires : goal.add_spelled-requires
unfolding shown_of
add_spelled-requires g c =
    let at = subst (λ dates. AreAt c.args.local.now (map shown_of dates)) c.in-Some.ensures.steps c.loop-date.invariant.2 in ap local_text at.0 ∙ c.requires

pub returns-in_err-add_bytes-clause-front : goal.returns-in_err-add_bytes-clause-front
returns-in_err-add_bytes-clause-front g c = ap (take (length c.args.text.now.items)) c.in_err-add_bytes.ensures.err ∙ c.loop-date.invariant.1

pub returns-in_err-add_bytes-2-clause-front : goal.returns-in_err-add_bytes-2-clause-front
returns-in_err-add_bytes-2-clause-front g c = ap (take (length c.args.text.now.items)) c.in_err-add_bytes-2.ensures.err ∙ c.loop-date.invariant.1
