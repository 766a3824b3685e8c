use Rattle.std.proofs.Common.{ap, ◌∙◌}
use Rattle.regex.specs.Strings.{captures_haystack}
use Rattle.zone_line.{specs.Patterns.{part_of}, proofs.PatternLemmas.{part_is}}
use Rattle.zone_line.proofs.parser.part.Goals as goal

pub returns-in_err-name : goal.returns-in_err-name
returns-in_err-name c =
    let h = c.in_err-name.ensures in
    rw c.from_residual.ensures (ap (part_of (captures_haystack c.args.captures.now)) h.found.2 ∙ part_is _ _ _ _ h.found.0 h.found.1)

pub returns : goal.returns
returns c =
    let h = c.in_ok-name.ensures in
    rw (c.as_str.ensures, h.within) (ap (part_of (captures_haystack c.args.captures.now)) h.found.2 ∙ part_is _ _ _ _ h.found.0 h.found.1)
