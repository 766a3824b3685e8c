use Rattle.std.proofs.Common.{◌+◌, ◌-◌, ◌/◌, ℕ, arith, sym}
use Rattle.tz_lookup.proofs.Halves.{paid_step}
use Rattle.tz_lookup.proofs.search.halve.Goals as goal

pub returns-in-Equal-clause-cost : goal.returns-in-Equal-clause-cost
returns-in-Equal-clause-cost g c =
    let i = c.search.invariant in
    (paid_step c.search.steps c.probe_by.new.steps c.args.steps.now (c.search.high - c.search.low) 0
    (c.args.end - c.args.start) i.later c.probe_by.ensures.step (omega arith) (omega arith) i.left).cost

pub search-preserved-in-Less : goal.search-preserved-in-Less
search-preserved-in-Less g c =
    let i = c.search.invariant in
    let middle : ℕ = c.search.low + (c.search.high - c.search.low) / 2 in
    let paid =
    paid_step c.search.steps c.probe_by.new.steps c.args.steps.now (c.search.high - c.search.low) (c.search.high - (middle + 1))
    (c.args.end - c.args.start) i.later c.probe_by.ensures.step (omega arith) (omega arith) i.left in
    record {
      from = omega (arith, i.from);
      order = omega arith;
      to = i.to;
      before = λ k l m. c.requires.sorted.before k middle l (omega arith) (omega (arith, i.to)) (sym c.in-Less.ensures.order);
      after = i.after;
      later = omega (arith, i.later, c.probe_by.ensures.step);
      cost = paid.cost;
      left = paid.left;
    }

pub search-preserved : goal.search-preserved
search-preserved g c =
    let i = c.search.invariant in
    let middle : ℕ = c.search.low + (c.search.high - c.search.low) / 2 in
    let paid =
    paid_step c.search.steps c.probe_by.new.steps c.args.steps.now (c.search.high - c.search.low) (middle - c.search.low)
    (c.args.end - c.args.start) i.later c.probe_by.ensures.step (omega arith) (omega arith) i.left in
    record {
      from = i.from;
      order = omega arith;
      to = omega (arith, i.to);
      before = i.before;
      after = λ k l m. c.requires.sorted.after middle k (omega (arith, i.from)) l m (sym c.in-Greater.ensures.order);
      later = omega (arith, i.later, c.probe_by.ensures.step);
      cost = paid.cost;
      left = paid.left;
    }
