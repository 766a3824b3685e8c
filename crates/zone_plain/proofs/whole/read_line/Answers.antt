use Rattle.std.proofs.Common.{refl, sym, ◌∙◌}
use Rattle.zone_table.specs.Values.{line_value}
use Rattle.zone_plain_lines.specs.Renamed.{renamed}
use Rattle.zone_plain.proofs.LineLemmas.{told_refused, unsaid, none_behind}
use Rattle.zone_plain.proofs.whole.read_line.Goals as goal

pub returns-in-Err-clause-err : goal.returns-in-Err-clause-err
returns-in-Err-clause-err c = told_refused c.args.mark.now c.args.is_open c.args.line.now c.in-Err.refused c.in-Err.ensures

pub returns-then-not-branch-clause-err : goal.returns-then-not-branch-clause-err
returns-then-not-branch-clause-err c =
    let v = line_value c.in-Ok.meant in
    unsaid c.args.mark.now c.args.is_open c.args.line.now v (renamed c.args.mark.now v) c.in-Ok.ensures refl
    (sym c.in_ok-add_line.ensures.told ∙ c.if-not-branch.true)

pub returns-clause-ok : goal.returns-clause-ok
returns-clause-ok c = record {
  value = line_value c.in-Ok.meant;
  meant = c.in-Ok.ensures;
  said = sym c.in_ok-add_line.ensures.told ∙ c.if-not-branch.false;
  added = c.in_ok-add_line.ensures.added c.if-not-branch.false;
  marked = λ e. none_behind _ _ _ c.behind_underscore.ensures (sym c.is_some.ensures ∙ e);
  open_now = c.is_open_after.ensures;
}
