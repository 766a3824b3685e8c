use Rattle.std.specs.Char.{is_ascii_alphabetic}
use Rattle.tz_posix.proofs.RunLemmas.{letter_is_ascii, boundary_after_run}
use Rattle.tz_posix.proofs.read.numbers.split_letters.Goals as goal

pub split_at-requires : goal.split_at-requires
split_at-requires c = rw (
  c.letters_ahead.ensures,
  c.as_bytes.ensures.value,
) (boundary_after_run is_ascii_alphabetic letter_is_ascii c.args.text.now c.utf8.text)
