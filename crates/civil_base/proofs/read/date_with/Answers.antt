use Rattle.std.proofs.Common.{rules, arith, ◌≡◌, to_z, of_z, to_z-of_z, FitsSigned, w32, sym, ap, ◌∙◌, unsigned_abs, ℤ, pos, int_lt, ℕ, Bool, false, ◌&&◌, nat_eq}
use Rattle.basics.specs.{SignedLaws.{signed_casts}, Days.{day, IsDate}, Dates.{year_of, month_of, day_of}, DateLaws.{year_of-day, month_of-day, day_of-day}}
use Rattle.civil_base.specs.{DateParts.{HasParts}, DayRangeLaws.{counted, date-inside}, Offsets.{signed_by}, Ranges.{IsYear}, OffsetLaws.{signed_by-size}, DayLaws.{date_of-day}}
use Rattle.civil_base.proofs.{FoundLemmas.{result_ok-found, ok_not_none, ok_known}, ReadLemmas.{signed_by-sign, signed_by-abs, ok_gives}}
use Rattle.civil_base.proofs.read.date_with.Goals as goal
use Rattle.civil_parts.specs.Months.{month_number, IsMonthNumber}

pub returns-in_err-month-clause-found : goal.returns-in_err-month-clause-found
returns-in_err-month-clause-found c = λ k inside parts.
    let has = date_of-day k inside in
    let month = parts.month_is in
    let number : IsMonthNumber c.args.month = record { first = omega arith; last = omega arith } in
    absurd (ok_not_none c.try_from.result (c.try_from.ensures.0.1 number) (sym c.ok.ensures.value ∙ c.in_err-month.was))

pub returns-clause-found : goal.returns-clause-found
returns-clause-found c = λ k inside parts.
    let has = date_of-day k inside in
    let year = c.signed-year.ensures ∙ ap (signed_by c.args.negative) (c.from.ensures ∙ sym parts.year)
    ∙ ap (λ t. signed_by t (unsigned_abs (year_of k))) (sym parts.sign) ∙ signed_by-size (year_of k) in
    let number = ok_known (λ m. month_number m ≡ c.args.month) c.try_from.result c.in_ok-month.month (sym c.ok.ensures.value
    ∙ c.in_ok-month.was) c.try_from.ensures.1 ∙ sym parts.month_is in
    let f : FitsSigned w32 (year_of k) = omega (arith, signed_casts, has.year.first, has.year.last) in
    let made = simp (year, to_z-of_z f, number, ← parts.day_is, has.number) at c.from_calendar_date.ensures in
    c.ok-2.ensures.value ∙ result_ok-found c.from_calendar_date.result k (made.accepts.1 (has.year, has.date)) made.value

made : (k y : ℤ) (negative : Bool) (size m d : ℕ) → IsYear y → IsDate y m d → k ≡ day y m d → y ≡ signed_by negative size
    → (negative && nat_eq size 0) ≡ false → HasParts k negative size m d
made k y negative size m d year date is whole zero = record {
  sign = ap (λ z. int_lt z (pos 0)) (year-is ∙ whole) ∙ signed_by-sign negative size zero;
  year = ap unsigned_abs (year-is ∙ whole) ∙ signed_by-abs negative size;
  month_is = ap month_of is ∙ month_of-day y m d (counted y year) date;
  day_is = ap day_of is ∙ day_of-day y m d (counted y year) date;
}
  where
    year-is : year_of k ≡ y
    year-is = ap year_of is ∙ year_of-day y m d (counted y year) date

pub returns-clause-parts : goal.returns-clause-parts
returns-clause-parts c =
    let number = ok_known (λ m. month_number m ≡ c.args.month) c.try_from.result c.in_ok-month.month (sym c.ok.ensures.value
    ∙ c.in_ok-month.was) c.try_from.ensures.1 in
    let f : FitsSigned w32 c.signed-year.result = search rules in
    let year = to_z-of_z f ∙ c.signed-year.ensures ∙ ap (signed_by c.args.negative) c.from.ensures in
    let made_of = rw number at c.from_calendar_date.ensures in
    rw c.ok-2.ensures.value (ok_gives c.from_calendar_date.result made_of.accepts.0 made_of.value (λ k accepted is. (
      made k (to_z w32 (of_z w32 c.signed-year.result)) c.args.negative c.args.size c.args.month c.args.day accepted.0 accepted.1 is year
          c.if-is_minus_zero.false,
      rw is (date-inside (to_z w32 (of_z w32 c.signed-year.result)) c.args.month c.args.day accepted.0 accepted.1),
    )))
