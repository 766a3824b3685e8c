use Rattle.std.{proofs.Common.{◌≡◌, ◌++◌, drop, length, ap, ◌∙◌, subst, arith}, proofs.lemmas.List.Folds.{list_all-append}, specs.List.{list_all}}
use Rattle.zone_spans.{specs.Bounds.{is_bounded_entry}, specs.Entries.{entries_from_over, entries_of_over, raw_entries_over}, proofs.BoundLemmas.{both}, proofs.EntryLemmas.{entries_more, entries_done}}
use Rattle.zone_spans.proofs.entries.raw_entries.Goals as goal

pub loop-line-preserved : goal.loop-line-preserved
loop-line-preserved c =
    let lines = c.args.lines.now in
    let step = c.in_ok-start.ensures in
    let line = c.line-item.result in
    let before = c.loop-line.invariant in
    let more = step.bounded before.start in
    record {
      entries = entries_more c.args.most c.loop-line.entries c.push_line.new.entries c.loop-line.start c.in_ok-start.start lines
          c.loop-line.line-index line
          (raw_entries_over c.args.most lines) (omega arith) c.line-item.is before.entries step.entries step.next;
      start = more.0;
      bounded = ap (list_all is_bounded_entry) step.entries ∙ list_all-append is_bounded_entry c.loop-line.entries
          (entries_of_over c.args.most line c.loop-line.start)
          ∙ both (list_all is_bounded_entry c.loop-line.entries) _ before.bounded more.1;
      kept = step.kept;
    }

pub returns-clause-raw : goal.returns-clause-raw
returns-clause-raw c =
    let lines = c.args.lines.now in
    let end : c.loop-line.line-index ≡ length lines = omega arith in
    entries_done c.args.most c.loop-line.entries c.loop-line.start lines (raw_entries_over c.args.most lines)
    (subst (λ n. c.loop-line.entries ++ entries_from_over c.args.most c.loop-line.start
    (drop n lines) ≡ raw_entries_over c.args.most lines) end c.loop-line.invariant.entries)
