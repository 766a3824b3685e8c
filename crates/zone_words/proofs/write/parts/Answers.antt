use Rattle.std.proofs.Common.{◌∙◌}
use Rattle.zone_words.proofs.WrittenLemmas.{date_cut, clock_cut, digits_cut}
use Rattle.zone_words.proofs.write.parts.Goals as goal

pub returns-clause-date : goal.returns-clause-date
returns-clause-date c = λ x e. c.split_at.ensures.front ∙ date_cut x c.args.text.now e

pub returns-clause-clock : goal.returns-clause-clock
returns-clause-clock c = λ x e. rw c.split_at.ensures.back (clock_cut x c.args.text.now e)

pub returns-clause-fraction : goal.returns-clause-fraction
returns-clause-fraction c = λ x e. rw c.split_at.ensures.back (digits_cut x c.args.text.now e)
