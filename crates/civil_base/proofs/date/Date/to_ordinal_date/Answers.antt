use Rattle.std.proofs.Common.{rules, arith, ◌≡◌, pos, to_z, of_z, to_z-of_z, FitsSigned, w32, ap, ◌∙◌, unsigned_abs}
use Rattle.basics.specs.{Dates.{year_of}, MonthLaws.{days_in_year-bounds}, SignedLaws.{signed_casts}}
use Rattle.civil_base.{specs.Ordinals.{ordinal_of}, specs.Ranges.{IsDay}, specs.DayLaws.{date_of-day}, proofs.OrdinalLemmas.{place, place_is, ordinal_day-of, ordinal_of-inside}}
use Rattle.civil_base.proofs.date.Date.to_ordinal_date.Goals as goal

year_is : (c : goal.After-day_number-first) → to_z w32 (of_z w32 c.year-year.result) ≡ year_of c.args.self
year_is c =
    let fits : FitsSigned w32 c.year-year.result = search rules in
    to_z-of_z fits ∙ c.year-year.ensures.value

days_of : (c : goal.After-day_number-first) → IsDay c.args.self
days_of c = rw (← c.day_number-number.ensures.value) c.day_number-number.ensures.bound

place_of : (c : goal.After-day_number-first) → place c.day_number-number.result c.day_number-first.result ≡ pos (ordinal_of c.args.self)
place_of c =
    ap (λ k. place k c.day_number-first.result) c.day_number-number.ensures.value
    ∙ place_is c.args.self _ c.day_number-first.result (days_of c) (year_is c) c.day_number-first.ensures.value

pub overflow_cast-result : goal.overflow_cast-result
overflow_cast-result c =
    let inside = ordinal_of-inside c.args.self (days_of c) in
    let few = days_in_year-bounds (year_of c.args.self) in
    omega (arith, signed_casts, place_of c)

pub returns-clause-ordinal : goal.returns-clause-ordinal
returns-clause-ordinal c = ap unsigned_abs (place_of c)

pub returns-clause-date : goal.returns-clause-date
returns-clause-date c = rw (year_is c, place_of c) (ordinal_day-of c.args.self (days_of c))

pub returns-clause-range : goal.returns-clause-range
returns-clause-range c = rw (year_is c, place_of c) ((date_of-day c.args.self (days_of c)).year, ordinal_of-inside c.args.self (days_of c))
