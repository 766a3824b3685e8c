use Rattle.std.proofs.Common.{◌∙◌, to_z-of_z, ap}
use Rattle.civil_base.specs.Ranges.{is_in_years}
use Rattle.sefunjaro_c.proofs.TimeLemmas.{moved_back, sum_is}
use Rattle.sefunjaro_c.proofs.zones.shown_at.Goals as goal

pub returns-in-Ok-from_unix_timestamp_nanos-clause-has : goal.returns-in-Ok-from_unix_timestamp_nanos-clause-has
returns-in-Ok-from_unix_timestamp_nanos-clause-has c =
    c.in-Ok-from_unix_timestamp_nanos.ensures.accepts
    ∙ ap is_in_years (sum_is c.args.nanos c.args.seconds c.from.result c.requires.near c.requires.offset (c.from.ensures ∙ to_z-of_z c.ranges.seconds))

pub returns-in-Ok-from_unix_timestamp_nanos-clause-instant : goal.returns-in-Ok-from_unix_timestamp_nanos-clause-instant
returns-in-Ok-from_unix_timestamp_nanos-clause-instant c =
    let shown = c.in-Ok-from_unix_timestamp_nanos in
    c.moved_to.ensures
    ∙ moved_back shown.shown c.args.nanos c.args.seconds c.in-Ok.offset _ shown.ensures.instant shown.ensures.offset
    (sum_is c.args.nanos c.args.seconds c.from.result c.requires.near c.requires.offset (c.from.ensures ∙ to_z-of_z c.ranges.seconds)) (c.in-Ok.ensures.value ∙ to_z-of_z c.ranges.seconds)
