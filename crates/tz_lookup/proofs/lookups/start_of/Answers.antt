use Rattle.std.proofs.{Common.{w64, SFits, rules, ◌∙◌}, lemmas.Int.{to_z-of_z}}
use Rattle.tz_lookup.proofs.SetLemmas.{start_is}
use Rattle.tz_lookup.proofs.lookups.start_of.Goals as goal

pub returns : goal.returns
returns g c =
    let fits : SFits w64 c.local_second.result = search rules in
    to_z-of_z w64 _ fits ∙ c.local_second.ensures ∙ start_is (g.T.SpanTable.seen c.args.set.now) c.args.index c.requires.some
