use Rattle.zone_spans.proofs.{GoesOnLemmas.{bounded_cycle}, SoundLemmas.{bounded_offset}}
use Rattle.zone_spans.proofs.turns.push_cycle.Goals as goal

pub returns-clause-bounded : goal.returns-clause-bounded
returns-clause-bounded c =
    let line = c.args.line.now in
    bounded_cycle line c.push_all.new.entries c.args.cycle.now c.fire_cycle.new.firings.fired.items c.as_slice-fired.result.now c.in_ok-count.count
    c.requires.empty c.as_slice-fired.ensures.value c.in_ok-push_all.ensures (bounded_offset line c.requires.line.bounded)
    c.in_ok-count.ensures.bounded
