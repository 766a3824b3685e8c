use Rattle.std.proofs.Common.{length, sym, ap, ◌∙◌}
use Rattle.tz_lookup.proofs.CompactLemmas.{seen_length}
use Rattle.tz_lookup.proofs.compact_set.CompactSetSpanTable.entry_count.Goals as goal

pub returns-clause-count : goal.returns-clause-count
returns-clause-count c =
    let set = c.args.self.now in
    ap length c.as_slice.ensures ∙ sym (seen_length set.kinds set.times set.numbers set.have_kinds.all)
