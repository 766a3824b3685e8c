use Rattle.std.proofs.Common.{sym, ◌∙◌}
use Rattle.zone_table.specs.Values.{line_value}
use Rattle.zone_plain.proofs.RuleLemmas.{said_and_added, unsaid}
use Rattle.zone_plain.proofs.made.add_said.Goals as goal

pub returns-then-not-branch : goal.returns-then-not-branch
returns-then-not-branch c = unsaid _ _ (line_value c.args.line.now) (sym c.in_ok-write_said.ensures.said ∙ c.if-not-branch.true)

pub returns : goal.returns
returns c =
    said_and_added _ _ (line_value c.args.line.now) _ (sym c.in_ok-write_said.ensures.said ∙ c.if-not-branch.false)
    (c.as_slice.ensures.value ∙ c.in_ok-write_said.ensures.text) c.in_ok-put_text.ensures
