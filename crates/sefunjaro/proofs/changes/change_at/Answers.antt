use Rattle.std.proofs.Common.{◌+◌, ◌<◌, length, arith}
use Rattle.sefunjaro.proofs.ChangeLemmas.{at_once, not_at_once, last_of_all}
use Rattle.sefunjaro.proofs.changes.change_at.Goals as goal

pub returns-then-is_before_next : goal.returns-then-is_before_next
returns-then-is_before_next g c =
    (c.entry_at.ensures, not_at_once (g.S.SpanTable.seen c.args.set.now) (g.S.SpanTable.seen c.args.set.now).others c.args.place c.entry_at.result c.entry_at.ensures c.if-is_before_next.ensures)

pub returns-else-is_before_next : goal.returns-else-is_before_next
returns-else-is_before_next g c =
    let within : c.args.place + 1 < length (g.S.SpanTable.seen c.args.set.now).others = omega (arith, c.if-place-count.true, c.entry_count-count.ensures.count) in
    at_once (g.S.SpanTable.seen c.args.set.now) (g.S.SpanTable.seen c.args.set.now).others c.args.place c.requires.accepted.times within c.if-is_before_next.ensures

pub returns-else-place-count : goal.returns-else-place-count
returns-else-place-count g c =
    let found = c.entry_at-else-place-count in (
      found.ensures,
      last_of_all (g.S.SpanTable.seen c.args.set.now) (g.S.SpanTable.seen c.args.set.now).others c.args.place found.result found.ensures
          (omega (arith, c.if-place-count.false, c.entry_count-count.ensures.count)),
    )
