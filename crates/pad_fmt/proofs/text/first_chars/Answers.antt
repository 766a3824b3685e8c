use Rattle.std.proofs.{Common.{arith}, lemmas.Grind.{common_steps}}
use Rattle.pad_fmt.{specs.TextLaws.{take_chars-empty}, proofs.TextLemmas.{past_inner_byte, past_first_byte, cut_at_first_byte}, proofs.text.first_chars.Goals.{then-begins_char+else-left-eq0, else-begins_char}}
use Rattle.pad_fmt.proofs.text.first_chars.Goals as goal

pub returns-then-left-eq0 : goal.returns-then-left-eq0
returns-then-left-eq0 c = grind (arith, common_steps, cut_at_first_byte c.loop-i.i c.args.text.now)

pub loop-i-preserved : goal.loop-i-preserved
loop-i-preserved c = elim c.if-begins_char.branch [
  | then-begins_char+else-left-eq0 w ↦ grind (arith, past_first_byte c.loop-i.i c.loop-i.left c.args.text.now)
  | else-begins_char w ↦ grind (arith, past_inner_byte c.loop-i.i c.loop-i.left c.args.text.now)
]

pub returns : goal.returns
returns c = grind (arith, common_steps, take_chars-empty)
