use Rattle.std.proofs.Common.{subst, sym}
use Rattle.zone_line.{specs.Patterns.{IsBuiltFrom}, proofs.PatternLemmas.{built}}
use Rattle.zone_line.proofs.parser.compile.Goals as goal

pub returns : goal.returns
returns c =
    let made = c.in-Ok.ensures in
    subst (IsBuiltFrom c.args.text.now) (sym c.in-Ok-new.ensures.ok)
    (built c.in-Ok.regex c.args.text.now made.source made.config made.read)
