use Rattle.std.proofs.Common.{◌<◌, ◌-◌, length, arith, sym, subst, ap, ◌∙◌}
use Rattle.tz_lookup.{specs.Kinds.{kind_in}, proofs.CompactLemmas.{seen_length, span_seen, kind_read}}
use Rattle.tz_lookup.proofs.compact_set.CompactSetSpanTable.span.Goals as goal

pub get-requires : goal.get-requires
get-requires c =
    let set = c.args.self.now in
    omega (arith, c.requires, c.if-index-eq0.false, set.have_kinds.all, seen_length set.kinds set.times set.numbers set.have_kinds.all)

pub index-requires-else-index-eq0 : goal.index-requires-else-index-eq0
index-requires-else-index-eq0 c =
    let set = c.args.self.now in
    let within : c.args.index - 1 < length set.numbers =
    omega (arith, c.requires, c.if-index-eq0.false, set.have_kinds.all, seen_length set.kinds set.times set.numbers set.have_kinds.all) in
    record { within = subst (λ n. n < length set.kinds) (sym c.get.ensures) (set.have_kinds.each (c.args.index - 1) within) }

pub returns-else-index-eq0 : goal.returns-else-index-eq0
returns-else-index-eq0 c =
    let set = c.args.self.now in
    let within : c.args.index - 1 < length set.numbers =
    omega (arith, c.requires, c.if-index-eq0.false, set.have_kinds.all, seen_length set.kinds set.times set.numbers set.have_kinds.all) in
    let number : c.get.result < length set.kinds =
    subst (λ n. n < length set.kinds) (sym c.get.ensures) (set.have_kinds.each (c.args.index - 1) within) in
    kind_read set.kinds c.get.result _ number c.index-else-index-eq0.ensures ∙ ap (kind_in set.kinds) c.get.ensures
    ∙ span_seen set.name set.kinds set.first set.times set.numbers c.args.index c.if-index-eq0.false set.have_kinds.all c.requires
