use Rattle.std.proofs.lemmas.Result.{err_from_is_err_and}
use Rattle.pad_fmt.proofs.SinkLemmas.{pieces_after, nothing_is_prefix, prefix_before, prefix_after}
use Rattle.pad_fmt.proofs.padding.write_between.Goals as goal

pub returns-in_err-write_repeated : goal.returns-in_err-write_repeated
returns-in_err-write_repeated g c =
    let p = err_from_is_err_and c.from_residual.result c.from_residual.ensures.1 in
    rw p.1 (record { wrote = prefix_before _ c.in_err-write_repeated.ensures.wrote })

pub returns-in_err-write_str : goal.returns-in_err-write_str
returns-in_err-write_str g c =
    let p = err_from_is_err_and c.from_residual-in_err-write_str.result c.from_residual-in_err-write_str.ensures.1 in
    rw p.1 (record {
      wrote = prefix_after c.in_ok-write_repeated.ensures.wrote (prefix_before _ (nothing_is_prefix c.in_err-write_str.ensures.wrote));
    })

pub returns : goal.returns
returns g c = record {
  wrote = pieces_after _ _ _ c.in_ok-write_repeated.ensures.wrote
      (pieces_after _ _ _ c.in_ok-write_str.ensures.wrote c.write_repeated-2.ensures.wrote);
}
