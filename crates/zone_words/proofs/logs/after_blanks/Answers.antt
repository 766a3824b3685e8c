use Rattle.std.proofs.lemmas.List.Sums.{prefix_len-le-length}
use Rattle.zone_words.specs.Logs.{is_blank}
use Rattle.zone_words.proofs.logs.after_blanks.Goals as goal

pub split_at-requires : goal.split_at-requires
split_at-requires c = rw c.blanks_ahead.ensures (prefix_len-le-length is_blank c.args.text.now)
