use Rattle.std.proofs.lemmas.Str.Pattern.{strip_prefix_char}
use Rattle.basics.proofs.MarkLemmas.{stripped}
use Rattle.basics.proofs.number.after_mark.Goals as goal

pub returns : goal.returns
returns c = stripped c.args.mark c.args.text.now c.strip_prefix.result
    (strip_prefix_char c.args.mark c.args.text.now _ c.strip_prefix.ensures.cases c.requires)
