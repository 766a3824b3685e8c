use Rattle.pad_fmt.proofs.SinkLemmas.{repeats_cut, repeats_more}
use Rattle.pad_fmt.proofs.padding.write_repeated.Goals as goal
use Rattle.std.proofs.lemmas.Result.{err_from_is_err_and}

pub returns-in_err-write_char : goal.returns-in_err-write_char
returns-in_err-write_char g c = let p = err_from_is_err_and c.from_residual.result c.from_residual.ensures.1 in
    rw p.1 (record {
      wrote = repeats_cut c.loop.counter c.args.count c.loop-test.true c.loop.invariant
          (c.in_err-write_char.ensures.wrote);
    })

pub loop-preserved : goal.loop-preserved
loop-preserved g c = repeats_more c.loop.counter c.loop.invariant c.in_ok-write_char.ensures.wrote
