use Rattle.std.proofs.Common.{rules}
use Rattle.pad_fmt.proofs.TextLemmas.{char_count-first_bytes}
use Rattle.pad_fmt.proofs.text.char_count.Goals as goal

pub returns : goal.returns
returns c = rw (char_count-first_bytes c.args.text.now) (search rules)
