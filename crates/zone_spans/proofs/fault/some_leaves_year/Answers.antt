use Rattle.std.{proofs.Common.{◌≡◌, length, drop, sym, ◌∙◌, subst, arith}, specs.List.{list_any}}
use Rattle.zone_spans.{specs.Faults.{leaves_year_over}, proofs.SoundLemmas.{any_here, any_behind, any_nowhere}}
use Rattle.zone_spans.proofs.fault.some_leaves_year.Goals as goal

pub returns-then-branch : goal.returns-then-branch
returns-then-branch c =
    any_here (leaves_year_over c.args.most) c.args.lines.now c.loop-line.line-index c.line-item.result (omega arith) c.line-item.is c.loop-line.invariant.behind
    (sym c.in_ok-leaves_year.ensures.value ∙ c.if-branch.true)

pub loop-line-preserved : goal.loop-line-preserved
loop-line-preserved c = record {
  behind = any_behind (leaves_year_over c.args.most) c.args.lines.now c.loop-line.line-index c.line-item.result (omega arith) c.line-item.is
      c.loop-line.invariant.behind (sym c.in_ok-leaves_year.ensures.value ∙ c.if-branch.false);
  tested = c.in_ok-leaves_year.ensures.tested;
}

pub returns : goal.returns
returns c =
    let lines = c.args.lines.now in
    let end : c.loop-line.line-index ≡ length lines = omega arith in
    let leaves = leaves_year_over c.args.most in
    any_nowhere leaves lines (subst (λ n. list_any leaves (drop n lines) ≡ list_any leaves lines) end c.loop-line.invariant.behind)
