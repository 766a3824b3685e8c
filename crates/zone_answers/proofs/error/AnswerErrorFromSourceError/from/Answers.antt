use Rattle.std.proofs.Common.{refl, sym, ◌∙◌}
use Rattle.zone_table.specs.Faults.{fault_of}
use Rattle.zone_answers.proofs.AnsweringLemmas.{line_told, none_told}
use Rattle.zone_answers.proofs.error.AnswerErrorFromSourceError.from.Goals as goal

pub returns-in-Some : goal.returns-in-Some
returns-in-Some c =
    rw c.in-Line.is (line_told c.in-Line.number c.in-Some.field-0 (fault_of c.in-Line.error) _ (sym c.in-Some.is ∙ c.kind.ensures) refl)

pub returns-in-None : goal.returns-in-None
returns-in-None c = rw c.in-Line.is (none_told c.in-Line.number (fault_of c.in-Line.error) (sym c.in-None.is ∙ c.kind.ensures))
