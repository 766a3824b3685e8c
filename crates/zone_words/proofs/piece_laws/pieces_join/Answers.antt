use Rattle.std.proofs.Common.{[]}
use Rattle.zone_words.{proofs.LineLemmas.{lines_join, answers_behind}, specs.Replies.{longest}}
use Rattle.zone_words.proofs.piece_laws.pieces_join.Goals as goal

pub returns-clause-lines : goal.returns-clause-lines
returns-clause-lines c = λ first then. (lines_join [] first then).0

pub returns-clause-rest : goal.returns-clause-rest
returns-clause-rest c = λ first then. (lines_join [] first then).1

pub returns-clause-held : goal.returns-clause-held
returns-clause-held c = λ replies begun then. answers_behind longest replies begun then
