use Rattle.std.proofs.{Common.{◌≤◌, map, length, subst, arith}, lemmas.List.{length-map, take_all}}
use Rattle.zone_table.specs.Values.{line_value}
use Rattle.zone_plain.{specs.Stands.{IsDeclared}, proofs.NameLemmas.{one_line_more}}
use Rattle.zone_plain.proofs.links.declared_by.Goals as goal

pub loop-line-preserved : goal.loop-line-preserved
loop-line-preserved c =
    rw (one_line_more c.args.lines.now c.loop-line.line-index (omega (arith, c.loop-line-test.true)))
    (c.in_ok-declare.ensures _ c.loop-line.invariant)

pub returns : goal.returns
returns c =
    let past : length (map line_value c.args.lines.now) ≤ c.loop-line.line-index =
    omega (arith, length-map c.args.lines.now line_value, c.loop-line-test.false) in
    subst (IsDeclared c.loop-line.declared) (take_all _ _ past) c.loop-line.invariant
