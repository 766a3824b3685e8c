use Rattle.std.proofs.{Common.{ap}, lemmas.Option.{IfSome_then}}
use Rattle.tz_lookup.specs.InForce.{shown_of}
use Rattle.sefunjaro.proofs.replies.OpenZoneReplyZone.shown_at.Goals as goal

pub returns-clause-instant : goal.returns-clause-instant
unfolding shown_of
returns-clause-instant c = IfSome_then c.shown_at.result c.shown_at.ensures.shown (λ v e. ap (λ s. s.0) e)

pub returns-clause-offset : goal.returns-clause-offset
unfolding shown_of
returns-clause-offset c = IfSome_then c.shown_at.result c.shown_at.ensures.shown (λ v e. ap (λ s. s.1) e)
