use Rattle.std.proofs.Common.{sym, ◌∙◌}
use Rattle.civil_base.specs.PartLaws.{time_part-blocks}
use Rattle.civil_base.proofs.plain_date_time.PlainDateTime.time.Goals as goal

pub returns : goal.returns
returns c =
    c.at_nanos.ensures ∙ sym (time_part-blocks c.args.self c.blocks-blocks.result.0 c.blocks-blocks.result.1
    c.blocks-blocks.ensures.sum c.blocks-blocks.ensures.rest)
