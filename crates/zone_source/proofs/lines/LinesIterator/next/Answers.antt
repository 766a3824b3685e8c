use Rattle.std.proofs.{Common.{sym, ap, ◌∙◌}, lemmas.List.{nil_from_length}, lemmas.Bool.{eqb-true}}
use Rattle.zone_source.{specs.Lines.{lines_of}, proofs.LineLemmas.{no_lines}}
use Rattle.zone_source.proofs.lines.LinesIterator.next.Goals as goal

pub returns-then-is_empty-clause-steps : goal.returns-then-is_empty-clause-steps
returns-then-is_empty-clause-steps c =
    let none = ap lines_of (nil_from_length _ (eqb-true _ _ (sym c.is_empty.ensures ∙ c.if-is_empty.true))) ∙ no_lines in
    (none, none)
