use Rattle.std.proofs.Common.{ap, ◌∙◌}
use Rattle.zone_tzif.specs.EverFiles.{version_for}
use Rattle.zone_tzif.proofs.version.version_of.Goals as goal

pub returns-in-Some : goal.returns-in-Some
returns-in-Some c = λ value spelled. c.version_for.ensures ∙ ap version_for (c.one_footer.ensures c.args.text.now _ value c.in-Some.ensures.exact spelled)

pub returns-in-None : goal.returns-in-None
returns-in-None c = λ value spelled. absurd (c.in-None.ensures.exact value spelled)
