use Rattle.std.proofs.Common.{Some, ap, ◌∙◌}
use Rattle.tz_ever.proofs.laws.unrolled_shows_for_ever.Goals as goal

pub returns : goal.returns
returns c = λ rulesets infos set t zone ok early.
    let here = c.unrolled_shows.ensures set t ok (c.repeats_at_the_seam.ensures rulesets infos set zone) early in
    let there = c.shows_for_ever.ensures rulesets infos set t zone in
    (here.1 ∙ there.0, ap (λ s. Some s) here.0 ∙ there.1)
