use Rattle.std.proofs.Common.{arith}
use Rattle.zone_tzif.proofs.CauseLemmas.{kinds_begin, kinds_more, kinds_many, kinds_end}
use Rattle.zone_tzif.proofs.causes.distinct_kinds.Goals as goal

pub loop-span-init : goal.loop-span-init
loop-span-init g c = kinds_begin c.args.saves (g.S.SpanTable.seen c.args.set.now) c.new-numbers.result.items c.new-numbers.ensures

pub returns-then-not-add_kind : goal.returns-then-not-add_kind
returns-then-not-add_kind g c =
    kinds_many c.args.saves (g.S.SpanTable.seen c.args.set.now) c.loop-span.span c.loop-span.numbers.items (omega (arith, c.entry_count-span-end.ensures.count))
    c.if-not-add_kind.ensures c.loop-span.invariant

pub loop-span-preserved : goal.loop-span-preserved
loop-span-preserved g c =
    kinds_more c.args.saves (g.S.SpanTable.seen c.args.set.now) c.loop-span.span c.loop-span.numbers.items c.add_kind.new.numbers.items
    (omega (arith, c.entry_count-span-end.ensures.count)) c.if-not-add_kind.ensures c.loop-span.invariant

pub returns : goal.returns
returns g c =
    kinds_end c.args.saves (g.S.SpanTable.seen c.args.set.now) c.loop-span.span c.loop-span.numbers.items (omega (arith, c.entry_count-span-end.ensures.count))
    c.loop-span.invariant
