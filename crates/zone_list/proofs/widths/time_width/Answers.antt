use Rattle.std.proofs.{Common.{◌∙◌, w64}, lemmas.Int.{to_z-of_z}}
use Rattle.zone_list.proofs.WidthLemmas.{number_width}
use Rattle.zone_list.proofs.widths.time_width.Goals as goal

pub returns : goal.returns
returns c =
    (rw (c.default.ensures, to_z-of_z w64 c.args.time c.ranges.time) at c.padded_width_of.ensures.value)
    ∙ number_width c.args.time c.ranges.time.sfits
