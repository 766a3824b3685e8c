use Rattle.zone_line.proofs.PatternLemmas.{searched}
use Rattle.zone_line.proofs.parser.search.Goals as goal
use Rattle.std.proofs.Common.{rules}

pub returns : goal.returns
returns c =
    let said = c.captures-2.ensures in (
      search rules,
      λ text is. searched text c.args.line.now c.args.matcher.now c.captures-2.result (λ k. (c.type_inv.line k).fits) is
          said.found said.names,
    )
