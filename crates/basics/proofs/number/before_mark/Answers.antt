use Rattle.std.proofs.lemmas.Str.Pattern.{strip_suffix_char}
use Rattle.basics.proofs.MarkLemmas.{suffixed}
use Rattle.basics.proofs.number.before_mark.Goals as goal

pub returns : goal.returns
returns c = suffixed c.args.mark c.args.text.now c.strip_suffix.result
    (strip_suffix_char c.args.mark c.args.text.now _ c.strip_suffix.ensures.cases c.requires)
