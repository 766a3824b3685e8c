use Rattle.zone_words.specs.TaskShown.{words_shown}
use Rattle.zone_command.proofs.AnswerLemmas.{over_text}
use Rattle.zone_command.proofs.find.serve_over.Goals as goal

pub returns-in-Ok-serve-clause-made : goal.returns-in-Ok-serve-clause-made
returns-in-Ok-serve-clause-made g c =
    let m = c.in-Ok-serve.ensures in (
      m.0,
      over_text (g.A.Answerer.makes (words_shown c.args.asked.now) c.args.file.now) _ _ c.in-Ok.text.items c.deref.result.now _
          c.in-Ok.ensures.bytes c.deref.ensures.value m.1,
      m.2,
    )

pub returns-in-Err-Line-clause-made : goal.returns-in-Err-Line-clause-made
returns-in-Err-Line-clause-made g c =
    let m = rw c.in-Err-Line.field-0-is at c.in-Err-Line.ensures in (
      over_text (g.A.Answerer.makes (words_shown c.args.asked.now) c.args.file.now) _ _ c.in-Ok.text.items c.deref.result.now _
          c.in-Ok.ensures.bytes c.deref.ensures.value m.0,
      m.1,
    )
