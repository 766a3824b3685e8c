use Rattle.std.proofs.Common.{rules, arith, ℕ, length, take, to_z, of_z, to_z-of_z, FitsSigned, w32, ap, ◌∙◌, length-take}
use Rattle.basics.specs.{Dates.{year_of, month_of, day_of}, MonthLaws.{days_in_month-bounds}}
use Rattle.civil_parts.specs.Months.{month_number}
use Rattle.civil_base.specs.LayoutLaws.{local_text-written}
use Rattle.civil_base.proofs.read.put_local.Goals as goal

pub date_bytes-requires-clause-day : goal.date_bytes-requires-clause-day
date_bytes-requires-clause-day c =
    let date = c.to_calendar_date-year in
    omega (arith, date.ensures.range.1.last_day, days_in_month-bounds date.result.0 (month_number date.result.1))

-- what was written, piece by piece
pub returns-clause-text : goal.returns-clause-text
returns-clause-text c =
    let date = c.to_calendar_date-year in
    let f : FitsSigned w32 date.result.0 = search rules in
    local_text-written c.args.local (take c.put_sign-after_sign.result c.put_sign-after_sign.new.into)
    (take c.put-after_date.result c.put-after_date.new.into) (take c.put-after_second.result c.put-after_second.new.into)
    (take c.put.result c.put.new.into) c.date_bytes.result c.spaced_second.result c.nanosecond_bytes.result
    (to_z w32 (of_z w32 date.result.0)) c.unsigned_abs.result c.from.result date.result.2 c.time-time.result c.nanosecond.result
    c.put_sign-after_sign.ensures.text c.put-after_date.ensures.text c.put-after_second.ensures.text c.put.ensures.text
    c.date_bytes.ensures c.spaced_second.ensures c.nanosecond_bytes.ensures c.unsigned_abs.ensures.value
    (to_z-of_z f ∙ date.ensures.year ∙ ap year_of c.date.ensures.value) (c.from.ensures.0 ∙ date.ensures.month
    ∙ ap month_of c.date.ensures.value) (date.ensures.day
    ∙ ap day_of c.date.ensures.value) c.nanosecond.ensures.value c.time-time.ensures

pub returns-clause-end : goal.returns-clause-end
returns-clause-end c =
    omega (
      arith,
      ap length (returns-clause-text c),
      length-take {A = ℕ},
      c.put.ensures.end,
      c.put-after_second.ensures.end,
      c.put-after_date.ensures.end,
      c.put_sign-after_sign.ensures.bound,
    )
