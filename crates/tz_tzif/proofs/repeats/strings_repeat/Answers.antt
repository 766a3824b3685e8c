use Rattle.tz_tzif.proofs.CycleLemmas.{given-on, string_total-on}
use Rattle.tz_tzif.proofs.repeats.strings_repeat.Goals as goal

pub returns-clause-total : goal.returns-clause-total
returns-clause-total c = string_total-on c.days_repeat.ensures c.weekdays_repeat.ensures c.months_repeat.ensures

pub returns-clause-given : goal.returns-clause-given
returns-clause-given c = given-on c.days_repeat.ensures c.weekdays_repeat.ensures c.months_repeat.ensures
