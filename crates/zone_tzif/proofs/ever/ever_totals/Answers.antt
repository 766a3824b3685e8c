use Rattle.std.proofs.Common.{◌∙◌, ap, sym}
use Rattle.zone_tzif.proofs.KindLemmas.{ever_total-is}
use Rattle.zone_tzif.proofs.ever.ever_totals.Goals as goal

pub returns : goal.returns
returns c = λ set bytes zone footer t file read says reach.
    ap (λ kind. kind.utoff) (c.ever_kinds.ensures set bytes zone footer t file read says reach) ∙ sym (ever_total-is set t)
