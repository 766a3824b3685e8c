use Rattle.std.proofs.Common.{◌∙◌, sym, true, false}
use Rattle.zone_tzif_core.{specs.Reading.{parts_shown}, proofs.PassLemmas.{wanting}}
use Rattle.zone_tzif_core.proofs.check.wanting.Goals as goal

pub returns-then-passes : goal.returns-then-passes
returns-then-passes c = wanting (parts_shown c.args.parts.now) true (sym c.if-passes.true ∙ c.passes.ensures)

pub returns-else-passes : goal.returns-else-passes
returns-else-passes c = wanting (parts_shown c.args.parts.now) false (sym c.if-passes.false ∙ c.passes.ensures)
