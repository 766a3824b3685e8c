use Rattle.std.proofs.{Common.{not}, lemmas.List.Sums.{prefix_len-le-length}}
use Rattle.zone_words.specs.Logs.{is_blank}
use Rattle.zone_words.proofs.logs.after_word.Goals as goal

pub split_at-requires : goal.split_at-requires
split_at-requires c = rw c.word_ahead.ensures (prefix_len-le-length (λ c. not (is_blank c)) c.args.text.now)
