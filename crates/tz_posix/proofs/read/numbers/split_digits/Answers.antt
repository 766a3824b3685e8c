use Rattle.std.specs.Char.{is_ascii_digit}
use Rattle.tz_posix.{proofs.RunLemmas.{digit_is_ascii, boundary_after_run}, specs.FoundLaws.{run_passes}}
use Rattle.tz_posix.proofs.read.numbers.split_digits.Goals as goal

pub split_at-requires : goal.split_at-requires
split_at-requires c = rw (
  c.digits_ahead.ensures,
  c.as_bytes.ensures.value,
) (boundary_after_run is_ascii_digit digit_is_ascii c.args.text.now c.utf8.text)

pub returns-clause-digits : goal.returns-clause-digits
returns-clause-digits c = rw (
  c.split_at.ensures.front,
  c.digits_ahead.ensures,
  c.as_bytes.ensures.value,
) (run_passes is_ascii_digit c.args.text.now)
