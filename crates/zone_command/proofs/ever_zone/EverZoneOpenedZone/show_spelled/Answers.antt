use Rattle.std.proofs.Common.{◌≡◌, ◌++◌, IfOk, IsTrue, ℤ, subst}
use Rattle.civil_base.specs.Ranges.{IsOffset}
use Rattle.tz_ever.specs.Recurrences.{zone_total}
use Rattle.zone_answers.specs.{Asked.{asked}, Due.{answer_text, shown_at}, Faults.{has_dates}}
use Rattle.zone_command.proofs.ever_zone.EverZoneOpenedZone.show_spelled.Goals as goal

pub returns-clause-dates : goal.returns-clause-dates
returns-clause-dates c = subst (λ total. IfOk c.show_spelled.result (λ has. has ≡ has_dates total (asked c.args.request.now))) (λ i. zone_total (c.new.ensures.recurrence i) (c.new.ensures.set i)) c.show_spelled.ensures.dates

pub returns-clause-line : goal.returns-clause-line
returns-clause-line c =
    subst (λ total. IfOk c.show_spelled.result (λ has. IsTrue has → c.show_spelled.new.text.items ≡ c.args.text.now.items ++ answer_text (shown_at total (asked c.args.request.now))))
    (λ i. zone_total (c.new.ensures.recurrence i) (c.new.ensures.set i)) c.show_spelled.ensures.line

pub returns-clause-none : goal.returns-clause-none
returns-clause-none c = c.show_spelled.ensures.none

pub returns-clause-err : goal.returns-clause-err
returns-clause-err c = c.show_spelled.ensures.err

pub returns-clause-range : goal.returns-clause-range
returns-clause-range c = subst (λ total. (t : ℤ) → IsOffset (total t)) (λ i. zone_total (c.new.ensures.recurrence i) (c.new.ensures.set i)) c.show_spelled.ensures.range
