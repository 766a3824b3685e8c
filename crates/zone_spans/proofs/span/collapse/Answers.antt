use Rattle.std.proofs.Common.{sym, ap, ◌∙◌, subst}
use Rattle.zone_spans.{specs.Collapse.{without_first, collapsed, LocalEndsRise, EntryTimesDontFall}, proofs.CollapseLemmas.{local_ends_rise, times_still_rise}}
use Rattle.zone_spans.proofs.span.collapse.Goals as goal

pub returns-clause-law : goal.returns-clause-law
unfolding collapsed
returns-clause-law c =
    let is = c.drop_repeat.ensures.dropped ∙ ap (without_first c.args.set.now.first) c.keep_kept.ensures.kept in
    subst LocalEndsRise (sym is) (local_ends_rise c.args.set.now.first c.args.set.now.rest)

pub returns-clause-times : goal.returns-clause-times
unfolding collapsed
returns-clause-times c rise =
    let is = c.drop_repeat.ensures.dropped ∙ ap (without_first c.args.set.now.first) c.keep_kept.ensures.kept in
    subst EntryTimesDontFall (sym is) (times_still_rise c.args.set.now.first c.args.set.now.rest rise)
