use Rattle.std.proofs.Common.{sym, ◌∙◌}
use Rattle.zone_texts.proofs.NameLemmas.{behind_byte}
use Rattle.zone_texts.proofs.text.has_word.Goals as goal

pub loop-start-preserved : goal.loop-start-preserved
loop-start-preserved c =
    sym (behind_byte c.args.text.now c.args.word.now c.loop-start.start c.loop-start-test.true (sym c.begins_so.ensures ∙ c.if-begins_so.false))
    ∙ c.loop-start.invariant
