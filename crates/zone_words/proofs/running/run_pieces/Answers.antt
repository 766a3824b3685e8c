use Rattle.std.proofs.Common.{refl, sym, ap, ◌∙◌, subst, arith, ◌<◌, ◌≤◌, take, length}
use Rattle.zone_words.{specs.{Filters.{Made}, Runs.{Finishes, Stops, Steps}}, proofs.RunLemmas.{starts, finishes, stops, steps}}
use Rattle.zone_words.proofs.running.run_pieces.Goals as goal

pub reads-init : goal.reads-init
reads-init g c = record {
  made = refl;
  room = c.requires.some;
  run = starts _ _ _ (g.met.F.Filter.begins c.args.filter.now) c.requires.fed;
}

pub returns-then-count-eq0 : goal.returns-then-count-eq0
returns-then-count-eq0 g c =
    let run = c.reads.invariant.run in
    let made = c.reads.invariant.made in
    let seen = g.E.Exchange.seen in
    let done = c.finish.ensures run.fed run.is (run.fails ∙ ap (λ (m : Made). m.fails run.fed) (sym made)) in
    finishes run c.in-Ok.ensures.receives c.if-count-eq0.true
    (subst (λ (m : Made). Finishes m run.fed (seen c.read.new.self) (seen c.finish.new.exchange) c.finish.result) made done)

pub returns-in-Err-step : goal.returns-in-Err-step
returns-in-Err-step g c =
    let run = c.reads.invariant.run in
    let made = c.reads.invariant.made in
    let seen = g.E.Exchange.seen in
    let done = c.in-Err-step.ensures.stops run.fed run.is in
    stops run c.in-Ok.ensures.receives refl
    (subst (λ (m : Made). Stops m run.fed (take c.in-Ok.count c.read.new.into) (seen c.read.new.self) (seen c.step.new.exchange) c.in-Err-step.end) made done)

pub reads-preserved : goal.reads-preserved
reads-preserved g c =
    let run = c.reads.invariant.run in
    let made = c.reads.invariant.made in
    let seen = g.E.Exchange.seen in
    let step = c.in-Ok-step.ensures.steps run.fed run.is in
    let some : 0 < c.in-Ok.count = omega arith in
    let within : c.in-Ok.count ≤ length c.read.new.into = omega (arith, c.in-Ok.ensures.bound, c.read.auto.into) in
    record {
      made = c.in-Ok-step.ensures.made ∙ made;
      room = omega (arith, c.read.auto.into, c.reads.invariant.room);
      run = steps run c.in-Ok.ensures.receives refl some within (c.in-Ok-step.ensures.fed run.fed run.is)
          (subst (λ (m : Made). Steps m run.fed (take c.in-Ok.count c.read.new.into) (seen c.read.new.self) (seen c.step.new.exchange) c.in-Ok-step.faulty) made step)
          c.either-fault.ensures;
    }
