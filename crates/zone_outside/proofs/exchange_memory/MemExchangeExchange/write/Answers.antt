use Rattle.std.proofs.{Common.{◌≡◌, refl, sym, ap, ◌∙◌, arith, [], ◌∷◌, ◌++◌, length, take, true, length-append}, lemmas.Grind.{common_steps}, lemmas.List.{length-take-le}}
use Rattle.zone_outside.{proofs.MarkLemmas.{written_sizes, told_write}, specs.Marks.{size_read, size_written}}
use Rattle.zone_outside.proofs.exchange_memory.MemExchangeExchange.write.Goals as goal

pub invariant_of-self-2 : goal.invariant_of-self-2
invariant_of-self-2 c =
    let marks = c.self.inside.marks.items in
    let count = c.min-count.result in
    let pushed : c.push.new.self.items ≡ marks ++ (true, count) ∷ [] = grind (arith, common_steps) in
    let grew : c.extend_from_slice.new.self.items ≡ c.self.inside.output.items ++ take count c.args.piece.now = grind (arith, common_steps) in
    let sizes = written_sizes marks count in
    let kept = c.self.invariant in
    let part = length-take-le count c.args.piece.now (omega (arith, c.min-count.ensures)) in
    record {
      reads = ap size_read pushed ∙ sizes.0 ∙ kept.reads;
      writes = ap size_written pushed ∙ sizes.1 ∙ omega (arith, kept.writes, ap length grew, length-append c.self.inside.output.items (take count c.args.piece.now), part);
      within = kept.within;
      few = omega (arith, ap length pushed, length-append marks ((true, count) ∷ []), c.len.ensures, c.if-len-self.false, kept.few);
      reserved = grind (arith, common_steps, kept.reserved);
      read_moves = kept.read_moves;
      write_moves = kept.write_moves;
    }

pub returns-clause-sends : goal.returns-clause-sends
returns-clause-sends c =
    let marks = c.self.inside.marks.items in
    let count = c.min-count.result in
    let pushed : c.push.new.self.items ≡ marks ++ (true, count) ∷ [] = grind (arith, common_steps) in
    let grew : c.extend_from_slice.new.self.items ≡ c.self.inside.output.items ++ take count c.args.piece.now = grind (arith, common_steps) in
    let part = length-take-le count c.args.piece.now (omega (arith, c.min-count.ensures)) in
    rw (← c.self.view_is) (record {
      done = told_write marks c.push.new.self.items c.self.inside.input.items c.self.inside.output.items c.extend_from_slice.new.self.items (take count c.args.piece.now) count _
          refl pushed grew c.self.invariant.writes (sym part);
      left = refl;
      cause = record { later = c.in_ok-begin.ensures.cause.later; failed = tt };
      reads = refl;
    })
