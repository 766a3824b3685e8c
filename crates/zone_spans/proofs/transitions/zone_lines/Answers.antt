use Rattle.std.{proofs.Common.{not, List, IsTrue, ap, sym, subst, arith}, specs.FinMap.{get}, specs.List.{list_all}}
use Rattle.zone_spans.{specs.Bounds.{is_bounded_line}, specs.Faults.{is_unknown}, specs.Lines.{Line, zone_lines}, proofs.LineLemmas.{line_bounded, lines_more, one_line_more}, proofs.SoundLemmas.{any_behind}}
use Rattle.zone_spans.proofs.transitions.zone_lines.Goals as goal

pub loop-i-preserved : goal.loop-i-preserved
loop-i-preserved c =
    let rulesets = get c.args.table.now.rulesets in
    let infos = c.args.infos.now in
    let i = c.loop-i.i in
    let info = c.index-infos-i.result in
    let rules = c.in_ok-rules.rules.now in
    let line : Line = record { info = info; rules = rules; end = c.end_at.result } in
    let pushed = c.in_ok-push.ensures.ok in
    let before = c.loop-i.invariant in
    record {
      lines = lines_more rulesets c.loop-i.lines c.push.new.self infos i info rules c.end_at.result (zone_lines rulesets infos)
          (omega arith)
          c.index-infos-i.is c.in_ok-rules.ensures.ok c.end_at.ensures pushed before.lines;
      known = any_behind (is_unknown rulesets) infos i info (omega arith) c.index-infos-i.is before.known
          (ap not c.in_ok-rules.ensures.known);
      bounded = subst (λ (ls : List Line). IsTrue (list_all is_bounded_line ls)) (sym pushed)
          (one_line_more c.loop-i.lines line before.bounded
          (line_bounded infos i info rules c.end_at.result (omega arith) c.index-infos-i.is c.end_at.ensures c.requires.lines
          c.in_ok-rules.ensures.bounded));
    }
