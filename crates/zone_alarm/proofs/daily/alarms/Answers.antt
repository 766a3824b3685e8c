use Rattle.std.{proofs.Common.{[], ◌∷◌, ◌++◌, map, ap, ◌∙◌, sym, subst}, specs.Prelude.{All, AllPairs}, proofs.lemmas.List.{map-append}}
use Rattle.zone_alarm.{specs.RingsOnce.{AreApart, RingsOnce}, specs.Rings.{day_ring, rings}, specs.Shown.{ring_shown}, proofs.OnceLemmas.{all_once, all_apart}, proofs.RingLemmas.{one_day_more}}
use Rattle.zone_alarm.proofs.daily.alarms.Goals as goal

pub loop-past-init : goal.loop-past-init
unfolding rings
loop-past-init g c = ap (map ring_shown) c.in_ok-found.ensures.items

pub loop-past-preserved : goal.loop-past-preserved
loop-past-preserved g c =
    let total = g.T.TimeZone.total_at c.args.zone.now in
    let before = c.loop-past.found.items in
    ap (map ring_shown) c.in_ok-add_ring.ensures
    ∙ map-append ring_shown before (c.ring_on.result ∷ [])
    ∙ ap (λ l. l ++ ring_shown c.ring_on.result ∷ []) c.loop-past.invariant
    ∙ ap (λ r. rings total c.args.at c.args.first c.loop-past.past ++ r ∷ [])
    (c.ring_on.ensures ∙ ap (day_ring total c.args.at) c.in-Some.ensures.value)
    ∙ sym (one_day_more total c.args.at c.args.first c.loop-past.past)

pub returns-clause-once : goal.returns-clause-once
returns-clause-once g c =
    let total = g.T.TimeZone.total_at c.args.zone.now in
    subst (All (RingsOnce total c.args.at)) (sym c.loop-past.invariant)
    (all_once total (g.met.T.TimeZone.in_range c.args.zone.now) c.args.at c.args.first c.loop-past.past)

pub returns-clause-apart : goal.returns-clause-apart
returns-clause-apart g c =
    let total = g.T.TimeZone.total_at c.args.zone.now in
    subst (AllPairs AreApart) (sym c.loop-past.invariant)
    (all_apart total (g.met.T.TimeZone.in_range c.args.zone.now) c.args.at c.args.first c.loop-past.past)
