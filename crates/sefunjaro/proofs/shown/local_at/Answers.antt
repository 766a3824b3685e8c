use Rattle.std.proofs.Common.{◌∙◌}
use Rattle.sefunjaro.proofs.ShownLemmas.{local_is, utc_is}
use Rattle.sefunjaro.proofs.shown.local_at.Goals as goal

pub returns : goal.returns
returns c =
    c.local_of.ensures ∙ utc_is c.in-Ok.shown _ c.in-Ok.ensures.instant c.in-Ok.ensures.offset
    ∙ local_is c.args.second c.args.offset c.from.result c.requires.second c.ranges.offset c.from.ensures
