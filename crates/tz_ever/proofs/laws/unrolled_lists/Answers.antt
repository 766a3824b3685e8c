use Rattle.std.proofs.Common.{Some, sym, ap, ◌∙◌}
use Rattle.tz_ever.proofs.ListedLemmas.{comes_early, is_put}
use Rattle.tz_ever.proofs.laws.unrolled_lists.Goals as goal

pub returns : goal.returns
returns c = λ rulesets infos set place entry zone ok there.
    let times = (c.unrolled_is_accepted.ensures set ok).times in
    ap (λ s. Some s) (sym (is_put set place entry times there))
    ∙ (c.unrolled_shows_for_ever.ensures rulesets infos set _ zone ok (comes_early set place entry ok there)).1
