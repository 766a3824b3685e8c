use Rattle.std.{proofs.Common.{string_bytes, subst}, specs.Prelude.{MatchResult}}
use Rattle.zone_tzif.specs.Tails.{IsFaultForEver, IsTailForEver}
use Rattle.zone_tzif.proofs.call.tail_for_ever.Goals as goal

pub returns : goal.returns
returns c =
    subst (λ set. MatchResult c.tail_of.result (λ tail. IsTailForEver set tail.from (string_bytes tail.text)) (IsFaultForEver set))
    c.compact.ensures.seen c.tail_of.ensures
