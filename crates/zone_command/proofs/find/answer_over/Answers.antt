use Rattle.civil_base.specs.DateTimes.{instant}
use Rattle.zone_words.specs.TaskShown.{words_shown}
use Rattle.zone_command.proofs.AnswerLemmas.{over_text}
use Rattle.zone_command.proofs.find.answer_over.Goals as goal

pub returns-in-Ok-answer-clause-due : goal.returns-in-Ok-answer-clause-due
returns-in-Ok-answer-clause-due g c =
    over_text (g.A.Answerer.due (words_shown c.args.asked.now) (instant c.args.now.now) c.args.file.now) _ _ c.in-Ok.text.items c.deref.result.now _
    c.in-Ok.ensures.bytes c.deref.ensures.value c.in-Ok-answer.ensures

pub returns-in-Err-Line-clause-due : goal.returns-in-Err-Line-clause-due
returns-in-Err-Line-clause-due g c =
    over_text (g.A.Answerer.due (words_shown c.args.asked.now) (instant c.args.now.now) c.args.file.now) _ _ c.in-Ok.text.items c.deref.result.now _
    c.in-Ok.ensures.bytes c.deref.ensures.value (rw c.in-Err-Line.field-0-is at c.in-Err-Line.ensures)
