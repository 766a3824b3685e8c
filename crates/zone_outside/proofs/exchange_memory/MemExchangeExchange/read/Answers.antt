use Rattle.std.proofs.{Common.{◌≡◌, refl, ap, ◌∙◌, arith, ◌+◌, ◌≤◌, [], ◌∷◌, ◌++◌, length, drop, false, Some, length-append, length-drop}, lemmas.Grind.{common_steps}}
use Rattle.zone_outside.{proofs.Loops.{consumed_at}, proofs.MarkLemmas.{read_sizes, told_read}, specs.Marks.{size_read, size_written}, specs.Outside.{Consumes}}
use Rattle.zone_outside.proofs.exchange_memory.MemExchangeExchange.read.Goals as goal

pub invariant_of-self-2 : goal.invariant_of-self-2
invariant_of-self-2 c =
    let marks = c.self.inside.marks.items in
    let count = c.copy_front-count.result in
    let pushed : c.push.new.self.items ≡ marks ++ (false, count) ∷ [] = grind (arith, common_steps) in
    let sizes = read_sizes marks count in
    let kept = c.self.invariant in
    let from = ap length (c.bytes_from.ensures ∙ ap (drop c.self.inside.at) c.deref.ensures.value) in
    record {
      reads = ap size_read pushed ∙ sizes.0 ∙ ap (λ m. m + count) kept.reads;
      writes = ap size_written pushed ∙ sizes.1 ∙ kept.writes;
      within = omega (arith, c.copy_front-count.ensures.count, from, length-drop c.self.inside.at c.self.inside.input.items, kept.within);
      few = omega (arith, ap length pushed, length-append marks ((false, count) ∷ []), c.len.ensures, c.if-len-self.false, kept.few);
      reserved = grind (arith, common_steps, kept.reserved);
      read_moves = kept.read_moves;
      write_moves = kept.write_moves;
    }

pub returns-clause-receives : goal.returns-clause-receives
returns-clause-receives c =
    let marks = c.self.inside.marks.items in
    let count = c.copy_front-count.result in
    let pushed : c.push.new.self.items ≡ marks ++ (false, count) ∷ [] = grind (arith, common_steps) in
    let at = c.self.inside.at in
    let input = c.self.inside.input.items in
    let step : Consumes (drop at input) (Some (drop count (drop at input))) c.copy_front-count.new.into count =
    rw (← c.deref.ensures.value, ← c.bytes_from.ensures) c.copy_front-count.ensures.bytes in
    let within : count ≤ length c.copy_front-count.new.into = omega (arith, c.copy_front-count.ensures.count, c.copy_front-count.auto.into) in
    rw (← c.self.view_is) (record {
      done = told_read marks c.push.new.self.items input c.self.inside.output.items c.copy_front-count.new.into _ at count _ refl pushed c.self.invariant.reads step within;
      bytes = consumed_at input _ at count step;
      cause = record { later = c.in_ok-begin.ensures.cause.later; failed = tt };
      writes = refl;
    })
