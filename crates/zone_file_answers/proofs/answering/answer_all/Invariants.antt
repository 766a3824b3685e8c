use Rattle.std.proofs.Common.{◌≡◌, ◌+◌, ◌++◌, length, map}
use Rattle.tz_ever.specs.{Asked.{asked_recurrence, asked_set}, Recurrences.{zone_total}}
use Rattle.zone_source.specs.{Lines.{lines_of}, LinesLeft.{lines_left}}
use Rattle.zone_file_answers.specs.{Due.{answer_line}, Faults.{first_refused}}
use Rattle.zone_file_answers.proofs.answering.answer_all.Given as goal

abbrev pub invariant-loop-line : goal.invariant-loop-line
invariant-loop-line l = record {
  number : l.number + length (lines_left l.line-iterator) ≡ 1 + length (lines_of l.requests);
  refused : first_refused (zone_total (asked_recurrence l.zone) (asked_set l.zone)) l.number (lines_left l.line-iterator)
      ≡ first_refused (zone_total (asked_recurrence l.zone) (asked_set l.zone)) 1 (lines_of l.requests);
  lines : l.answers ++ map (answer_line (zone_total (asked_recurrence l.zone) (asked_set l.zone))) (lines_left l.line-iterator)
      ≡ map (answer_line (zone_total (asked_recurrence l.zone) (asked_set l.zone))) (lines_of l.requests);
}
