use Rattle.std.{proofs.lemmas.List.Sums.{prefix_len-le-length}, specs.Char.{is_ascii_digit}}
use Rattle.zone_words.proofs.NumberLemmas.{run_passes}
use Rattle.zone_words.proofs.pieces.split_digits.Goals as goal

pub split_at-requires : goal.split_at-requires
split_at-requires c = rw c.digits_ahead.ensures (prefix_len-le-length is_ascii_digit c.args.text.now)

pub returns-clause-digits : goal.returns-clause-digits
returns-clause-digits c = rw (c.split_at.ensures.front, c.digits_ahead.ensures) (run_passes c.args.text.now)
