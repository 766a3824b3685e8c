use Rattle.std.proofs.Common.{◌∙◌, to_z-of_z, FitsSigned, rules}
use mir.Syntax.{w128}
use Rattle.zone_texts.proofs.LocalLemmas.{at_utc}
use Rattle.zone_texts.proofs.skip.nanos_of.Goals as goal

pub returns : goal.returns
returns c =
    let fits : FitsSigned w128 c.unix_timestamp_nanos.result = search rules in
    to_z-of_z fits ∙ c.unix_timestamp_nanos.ensures.value
    ∙ at_utc c.assume_utc.result c.args.local.now c.assume_utc.ensures.local c.assume_utc.ensures.offset
