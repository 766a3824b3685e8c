use Rattle.std.proofs.{Common.{pos, w64, SFits, rules, slice_index_or, arith, ap, length, ◌∙◌}, lemmas.Int.{to_z-of_z}}
use Rattle.tz_lookup.proofs.CompactLemmas.{seen_length, time_seen}
use Rattle.tz_lookup.proofs.compact_set.CompactSetSpanTable.time.Goals as goal

pub time_at-requires : goal.time_at-requires
time_at-requires c =
    let set = c.args.self.now in
    omega (arith, c.requires, ap length c.as_slice.ensures, seen_length set.kinds set.times set.numbers set.have_kinds.all)

pub returns : goal.returns
returns c =
    let set = c.args.self.now in
    let fits : SFits w64 c.time_at.result = search rules in
    to_z-of_z w64 _ fits ∙ c.time_at.ensures ∙ ap (λ ts. slice_index_or ts c.args.index (pos 0)) c.as_slice.ensures
    ∙ time_seen set.kinds set.times set.numbers c.args.index (pos 0) set.have_kinds.all
    (omega (arith, c.requires, seen_length set.kinds set.times set.numbers set.have_kinds.all))
