use Rattle.zone_words.specs.Lines.{open_behind}
use Rattle.zone_words.proofs.requests.LineAnswers.new.Goals as goal

pub returns-clause-fed : goal.returns-clause-fed
unfolding open_behind
returns-clause-fed g c = c.in_ok-held.ensures
