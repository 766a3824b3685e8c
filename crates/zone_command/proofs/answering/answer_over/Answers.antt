use Rattle.std.proofs.Common.{◌≡◌, inl, inr, sym, ◌∙◌}
use Rattle.civil_base.specs.DateTimes.{instant}
use Rattle.zone_words.specs.TaskShown.{words_shown}
use Rattle.zone_command.{specs.{Answers.{lined, of_name}, Replies.{IsDueOver, IsZoneOver}}, proofs.AnswerLemmas.{due_so}}
use Rattle.zone_command.proofs.answering.answer_over.Goals as goal

pub returns-then-asks_form : goal.returns-then-asks_form
returns-then-asks_form g c =
    let of = g.S.ZoneSource in
    due_so (λ due. due ≡ lined (of_name c.args.file.now (of.forms c.args.text.now)))
    (IsDueOver of.reads of.unread of.found of.entries of.files of.strings of.trees of.forms (words_shown c.args.asked.now) (instant c.args.now.now) c.args.file.now c.args.text.now)
    c.form_due.result (λ due is. inl (sym c.asks_form.ensures ∙ c.if-asks_form.true, is)) c.form_due.ensures

pub returns-else-asks_form : goal.returns-else-asks_form
returns-else-asks_form g c =
    let of = g.S.ZoneSource in
    due_so (IsZoneOver of.reads of.unread of.found of.entries of.files of.strings of.trees (words_shown c.args.asked.now) (instant c.args.now.now) c.args.file.now c.args.text.now)
    (IsDueOver of.reads of.unread of.found of.entries of.files of.strings of.trees of.forms (words_shown c.args.asked.now) (instant c.args.now.now) c.args.file.now c.args.text.now)
    c.reply_due.result (λ due is. inr (sym c.asks_form.ensures ∙ c.if-asks_form.false, is)) c.reply_due.ensures
