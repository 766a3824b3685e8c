use Rattle.tz_posix.proofs.RunLemmas.{boundary_before_bracket}
use Rattle.tz_posix.proofs.read.numbers.split_enclosed.Goals as goal

pub split_at-requires : goal.split_at-requires
split_at-requires c = rw (c.enclosed_ahead.ensures, c.as_bytes.ensures.value) (boundary_before_bracket c.args.text.now c.utf8.text)
