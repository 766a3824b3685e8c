use Rattle.std.proofs.Common.{◌≡◌, ◌∙◌, ap, rules, sym}
use Rattle.zone_table.specs.{Values.{line_value}, declared.line.Line.{Line}}
use Rattle.zone_table.specs.contracts.line.LinePartialEq.TheImpl as of_line
use Rattle.zone_plain_lines.specs.{Said.{is_read_as}, Same.{same_line}}
use Rattle.zone_plain_lines.proofs.said.is_read.Goals as goal

same_is : (a b : Line) → of_line.ghosts.eq a b ≡ same_line (line_value a) (line_value b)
unfolding same_line
same_is a b = search rules

pub returns-in-Ok : goal.returns-in-Ok
returns-in-Ok c =
    c.eq.ensures ∙ same_is c.in-Ok.read c.args.meant.now ∙ sym (ap (is_read_as (line_value c.args.meant.now)) c.in-Ok.ensures.value)
