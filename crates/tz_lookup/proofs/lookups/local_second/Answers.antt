use borrow.Author.Rules.{to_z-of_z_to}
use Rattle.std.proofs.Common.{w32, w64, rules, ◌∙◌}
use Rattle.tz_lookup.proofs.SetLemmas.{span_offset, time_bound, added_fits, sum_is}
use Rattle.tz_lookup.proofs.lookups.local_second.Goals as goal

pub overflow_add-result : goal.overflow_add-result
overflow_add-result g c =
    let set = (g.T.SpanTable.seen c.args.set.now) in
    added_fits _ _ _ _ (to_z-of_z_to w64 c.time.result _ (search rules) c.time.ensures)
    (to_z-of_z_to w64 c.from.result _ (search rules) (c.from.ensures ∙ to_z-of_z_to w32 c.total-total.result _ (search rules) c.total-total.ensures))
    (time_bound set c.args.entry c.requires.accepted c.requires.entry)
    (span_offset set c.args.index c.requires.accepted c.requires.within)

pub returns : goal.returns
returns g c =
    let set = (g.T.SpanTable.seen c.args.set.now) in
    sum_is _ _ _ _ (to_z-of_z_to w64 c.time.result _ (search rules) c.time.ensures)
    (to_z-of_z_to w64 c.from.result _ (search rules) (c.from.ensures ∙ to_z-of_z_to w32 c.total-total.result _ (search rules) c.total-total.ensures))
    (time_bound set c.args.entry c.requires.accepted c.requires.entry)
    (span_offset set c.args.index c.requires.accepted c.requires.within)
