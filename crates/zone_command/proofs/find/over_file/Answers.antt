use Rattle.std.proofs.Common.{inl, inr, refl, sym, ◌∙◌}
use Rattle.zone_command.proofs.find.over_file.Goals as goal

pub returns-in-Ok-clause-over : goal.returns-in-Ok-clause-over
returns-in-Ok-clause-over g c =
    let m = c.in-Ok.ensures.made in
    (m.0, inr (sym c.is_served.ensures ∙ c.if-is_served.true, m.1), m.2)

pub returns-in-Err-clause-over : goal.returns-in-Err-clause-over
returns-in-Err-clause-over g c =
    let m = c.in-Err.ensures.made in
    (inr (sym c.is_served.ensures ∙ c.if-is_served.true, m.0), m.1)

pub returns-in-Ok-answer_over-clause-over : goal.returns-in-Ok-answer_over-clause-over
returns-in-Ok-answer_over-clause-over g c = (inl (sym c.is_served.ensures ∙ c.if-is_served.false, c.in-Ok-answer_over.ensures.due), refl)

pub returns-in-Err-answer_over-clause-over : goal.returns-in-Err-answer_over-clause-over
returns-in-Err-answer_over-clause-over g c = (inl (sym c.is_served.ensures ∙ c.if-is_served.false, c.in-Err-answer_over.ensures.due), refl)
