use Rattle.std.proofs.{Common.{arith, ap, sym, unsigned_abs}, Common.{get_or}, lemmas.Bool.{and_parts, false≢true}}
use Rattle.basics.specs.{SignedLaws.{signed, one_sided}, MonthLaws.{days_in_month-bounds}, Dates.{year_of, month_of, day_of}}
use Rattle.civil_base.{specs.DayLaws.{date_of-day}, specs.Layout.{date_digits}, proofs.ReadLemmas.{byte-is, date-listed, found_gives}}
use Rattle.civil_base.proofs.read.parse_date.Goals as goal

pub returns-then-marked-clause-found : goal.returns-then-marked-clause-found
unfolding date_digits
returns-then-marked-clause-found c = λ k inside sign text.
    let has = date_of-day k inside in
    let year = c.four-year.ensures.value (unsigned_abs (year_of k)) (omega (arith, signed, one_sided (year_of k)))
    (ap (λ l. get_or l 0 0) text) (ap (λ l. get_or l 1 0) text) (ap (λ l. get_or l 2 0) text) (ap (λ l. get_or l 3 0) text) in
    let month = c.two-month.ensures.value (month_of k) (omega arith) (ap (λ l. get_or l 5 0) text) (ap (λ l. get_or l 6 0) text) in
    let day = c.two-day.ensures.value (day_of k) (omega (arith, days_in_month-bounds (year_of k) (month_of k)))
    (ap (λ l. get_or l 8 0) text) (ap (λ l. get_or l 9 0) text) in
    c.date_with.ensures.found k inside (record { sign = sign; year = sym year; month_is = sym month; day_is = sym day })

pub returns-then-marked-clause-spelled : goal.returns-then-marked-clause-spelled
unfolding date_digits
returns-then-marked-clause-spelled c =
    let marks = and_parts _ _ c.if-marked.true in
    found_gives c.date_with.result c.date_with.ensures.parts (λ k known.
    let parts = known.0 in
    let has = date_of-day k known.1 in
    let year_is = parts.year in
    let month_is = parts.month_is in
    let day_is = parts.day_is in
    let year = c.four-year.ensures.spelled (omega (arith, signed, one_sided (year_of k))) in
    let month = c.two-month.ensures.spelled (omega arith) in
    let day = c.two-day.ensures.spelled (omega (arith, days_in_month-bounds (year_of k) (month_of k))) in (
      rw (year_is, month_is, day_is) (date-listed c.args.bytes.now c.four-year.result c.two-month.result c.two-day.result c.requires
          year.0 year.1 year.2 year.3 (byte-is _ _ marks.0) month.0 month.1 (byte-is _ _ marks.1) day.0 day.1),
      parts.sign,
    ))

pub returns-else-marked-clause-found : goal.returns-else-marked-clause-found
unfolding date_digits
returns-else-marked-clause-found c = λ k inside sign text.
    let no = rw text at c.if-marked.false in
    absurd (false≢true (sym no))
