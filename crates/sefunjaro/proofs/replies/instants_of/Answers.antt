use Rattle.std.proofs.Common.{◌++◌, map, ap, ◌∙◌}
use Rattle.tz_lookup.specs.{AllLeft.{all_left}, InForce.{all_in_force, shown_of}}
use Rattle.sefunjaro.proofs.ReplyLemmas.{pushed}
use Rattle.sefunjaro.proofs.replies.instants_of.Goals as goal

pub loop-date-init : goal.loop-date-init
loop-date-init g c =
    ap (λ l. map shown_of l ++ map shown_of (all_left c.into_iter-date-iterator.result)) c.new-found.ensures.items
    ∙ ap (λ i. map shown_of (all_left i)) c.into_iter-date-iterator.ensures.into_iter_gives ∙ c.new-date-items.ensures.all

pub loop-date-preserved : goal.loop-date-preserved
loop-date-preserved g c =
    pushed shown_of c.loop-date.found.items (all_left c.loop-date.date-iterator) (all_left c.next.new.self) c.extend_from_slice.new.self.items c.in-Some.date
    (all_in_force (g.T.TimeZone.total_at c.args.zone.now) c.args.local.now) c.loop-date.invariant c.in-Some.ensures.steps c.in_ok-extend_from_slice.ensures.items
