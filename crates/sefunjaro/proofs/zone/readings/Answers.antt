use Rattle.std.proofs.{Common.{◌≡◌, ◌∷◌, ◌∙◌, length, map, drop, sym, refl, ap, arith}, lemmas.List.{length-map}}
use Rattle.tz_lookup.specs.{AllLeft.{all_left}, InForce.{all_in_force, shown_of}, InstantLaws.{few_instants}}
use Rattle.sefunjaro.{specs.Asked.{reading_of}, specs.Rooms.{filled, filled_at}, proofs.AskLemmas.{one_more, dropped}}
use Rattle.sefunjaro.proofs.zone.readings.Goals as goal

pub loop-date-init : goal.loop-date-init
unfolding filled
loop-date-init g c =
    let from = c.into_iter-date-iterator in
    let total = g.T.TimeZone.total_at c.args.zone.now in
    let all = all_in_force total c.args.local.now in
    let shown : map shown_of (all_left from.result) ≡ all =
    ap (λ i. map shown_of (all_left i)) from.ensures.into_iter_gives ∙ c.new-date-items.ensures.all in
    let size : length (all_left from.result) ≡ length all = sym (length-map (all_left from.result) shown_of) ∙ ap length shown in
    record {
      few = few_instants total c.args.local.now;
      count = omega (arith, size);
      left = shown;
      room = refl;
    }

pub loop-date-preserved : goal.loop-date-preserved
loop-date-preserved g c =
    let invariant = c.loop-date.invariant in let n = c.loop-date.count in let x = c.in-Some.date in let rest = all_left c.next.new.self in
    let all = all_in_force (g.T.TimeZone.total_at c.args.zone.now) c.args.local.now in
    let step : all_left c.loop-date.date-iterator ≡ x ∷ rest = c.in-Some.ensures.steps in
    let left : drop n all ≡ shown_of x ∷ map shown_of rest = sym invariant.left ∙ ap (map shown_of) step in
    record {
      few = invariant.few;
      count = omega (arith, invariant.count, ap length step);
      left = dropped all n (shown_of x) (map shown_of rest) left;
      room =
          c.put.ensures ∙ ap (λ r. filled_at n r c.loop-date.room) c.reading_of.ensures ∙ ap (filled_at n (reading_of (shown_of x))) invariant.room
          ∙ one_more reading_of all n (shown_of x) (map shown_of rest) c.args.room.now left;
    }
