use Rattle.zone_words.proofs.FrontLemmas.{fronts_fed, fronts_grow}
use Rattle.zone_words.proofs.fronts.LineRewritesFilter.feed.Goals as goal

pub returns-clause-fed : goal.returns-clause-fed
returns-clause-fed g c = fronts_fed _ _ _ _ _ _ c.in_ok-pass_piece.ensures.passes

pub returns-clause-output : goal.returns-clause-output
returns-clause-output g c = fronts_grow _ _ _ _ _ _ c.in_ok-pass_piece.ensures.passes
