use Rattle.std.proofs.{Common.{◌≡◌, ◌+◌, ◌++◌, ◌∷◌, [], take, sym, ap, ◌∙◌, subst, arith}, lemmas.List.{take_more, take_all}}
use Rattle.zone_spans.specs.Entries.{Entry}
use Rattle.tz_lookup.{specs.Compact.{StandFor}, specs.Kinds.{with_kind}, proofs.BuildLemmas.{first_stands}}
use Rattle.tz_lookup.proofs.compact_set.number_spans.Goals as goal

pub loop-entry-init : goal.loop-entry-init
loop-entry-init c =
    let start = c.args.set.now.first in
    let first = c.in_ok-first.first in
    let kinds = c.number.new.self in
    let is = c.in_ok-first.ensures.kinds ∙ ap (λ ks. with_kind ks start) c.requires.kinds in
    subst (λ ts. StandFor start [] kinds first ts c.args.numbers.now) (sym c.requires.times)
    (subst (λ ns. StandFor start [] kinds first [] ns) (sym c.requires.numbers)
    (first_stands start first kinds is c.in_ok-first.ensures.within c.in_ok-first.ensures.kind))

pub loop-entry-preserved : goal.loop-entry-preserved
loop-entry-preserved c =
    let start = c.args.set.now.first in
    let items = c.as_slice-entry-items.result.now in
    let i = c.loop-entry.entry-index in
    let entry : Entry = c.entry-item.result in
    let first = c.in_ok-first.first in
    let taken : take (i + 1) items ≡ take i items ++ entry ∷ [] =
    take_more items i entry c.loop-entry-test.true ∙ ap (λ (e : Entry). take i items ++ e ∷ []) (sym c.entry-item.is) in
    subst (λ es. StandFor start es c.add_entry.new.kinds first c.add_entry.new.times c.add_entry.new.numbers) (sym taken)
    (c.in_ok-add_entry.ensures start (take i items) first c.loop-entry.invariant)

pub returns : goal.returns
returns c =
    let start = c.args.set.now.first in
    let items = c.as_slice-entry-items.result.now in
    let first = c.in_ok-first.first in
    let whole = take_all c.loop-entry.entry-index items (omega (arith, c.loop-entry-test.false)) ∙ c.as_slice-entry-items.ensures in
    subst (λ ks. StandFor start c.args.set.now.others ks first c.loop-entry.times c.loop-entry.numbers) (sym c.in_ok-owned.ensures)
    (subst (λ es. StandFor start es c.loop-entry.kinds first c.loop-entry.times c.loop-entry.numbers) whole c.loop-entry.invariant)
