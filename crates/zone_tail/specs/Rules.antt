-- Rules of each year, and the totals that they give seconds from 1970-01-01 00:00 UTC on.
use Rattle.std.specs.Prelude.{◌<◌, IsTrue, ℤ, pos, neg_ℤ, ◌≤ℤ◌}
use Rattle.civil_base.specs.Ranges.{IsOffset}
use Rattle.tz_posix.specs.{InForce.{YearlyTime, posix_total}, Ranges.{is_rule_date}, declared.date.Date.{Date}, declared.date.Date.TheVariants.{M}}
use Rattle.zone_tail.specs.declared.rule.{Change.{Change}, YearlyRule.{YearlyRule}}

abbrev pub date_of : Change → Date
date_of change = M change.month change.week change.weekday

abbrev pub time_of : Change → YearlyTime
time_of change = (date_of change, pos change.second)

-- the seconds east of UTC that a rule gives a second
unfoldable pub rule_total : YearlyRule → ℤ → ℤ
rule_total rule second = posix_total rule.standard rule.saving (time_of rule.start) (time_of rule.end) second

-- a date that a rule may have, and a second of a day
pub record IsChange (change : Change) : Type 0 where
  pub date : IsTrue (is_rule_date (date_of change))
  pub second : change.second < 86400

pub record IsSound (rule : YearlyRule) : Type 0 where
  pub standard : IsOffset rule.standard
  pub saving : IsOffset rule.saving
  pub start : IsChange rule.start
  pub end : IsChange rule.end

-- a second from 1779 to 2160
pub record IsReach (second : ℤ) : Type 0 where
  pub least : neg_ℤ (pos 6000000000) ≤ℤ second
  pub greatest : second ≤ℤ pos 6000000000

pub record IsNearYear (year : ℤ) : Type 0 where
  pub first : pos 1700 ≤ℤ year
  pub last : year ≤ℤ pos 2300
