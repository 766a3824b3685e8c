-- The days that rules name, and the moments at which they fire, are the same in the next cycle, a cycle later.
use Rattle.std.proofs.Common.{◌≡◌, refl, pos, arith, ℤ, ◌+ℤ◌, ◌*ℤ◌, ◌∙◌, ℕ, Bool, ◌≤ℤ◌, zero, suc, ◌==◌, ap, ◌-ℤ◌, nat_abs}
use Rattle.basics.specs.{Dates.{last_with}, Days.{day, days_in_month}, SignedLaws.{signed}, Weekdays.{weekday_of}}
use Rattle.zone_table.specs.{Days.{named_day, first_from, last_up_to}, Months.{month_number}, Weekdays.{weekday_number}, declared.day.DaySpec.{DaySpec}, declared.day.DaySpec.TheVariants.{Ordinal, Last, LastOnOrBefore, FirstOnOrAfter}, declared.{month.Month.{Month}, time.TimeType.{TimeType}, time.TimeType.TheVariants.{Wall, UTC, Standard}}, Moments.{instant_of, moment}, declared.rule.RuleInfo.{RuleInfo}}
use Rattle.zone_spans.specs.Cycle.{days_on, next_cycle, seconds_on}
use Rattle.tz_ever.proofs.cycle.DayLemmas.{day-repeats, days_in_month-repeats, weekday_of-repeats}

last_with-same : (p q : ℕ → Bool) → ((n : ℕ) → p n ≡ q n) → (n : ℕ) → last_with p n ≡ last_with q n
unfolding last_with
last_with-same p q same zero = refl
last_with-same p q same (suc n) = rw (same (suc n), last_with-same p q same n)

first_from-repeats : (w : ℕ) (k : ℤ) → first_from w (days_on k) ≡ days_on (first_from w k)
unfolding first_from
first_from-repeats w k =
    let p = λ (n : ℕ). weekday_of (days_on k +ℤ pos n) == w in
    let q = λ (n : ℕ). weekday_of (k +ℤ pos n) == w in
    let moved = λ (n : ℕ). let e : days_on k +ℤ pos n ≡ days_on (k +ℤ pos n) = omega (arith, signed) in
    ap (λ z. weekday_of z == w) e ∙ ap (λ d. d == w) (weekday_of-repeats (k +ℤ pos n)) in
    let e : last_with p 6 ≡ last_with q 6 = last_with-same p q moved 6 in
    omega (arith, signed)

last_up_to-repeats : (w : ℕ) (k : ℤ) → last_up_to w (days_on k) ≡ days_on (last_up_to w k)
last_up_to-repeats w k =
    let e : days_on k -ℤ pos 6 ≡ days_on (k -ℤ pos 6) = omega (arith, signed) in
    ap (first_from w) e ∙ first_from-repeats w (k -ℤ pos 6)

pub named_day-repeats : (spec : DaySpec) (y : ℤ) (m : Month) → pos 0 ≤ℤ y → named_day spec (next_cycle y) m ≡ days_on (named_day spec y m)
unfolding named_day
named_day-repeats (Ordinal n) y m h = day-repeats y (month_number m) (nat_abs n) h
named_day-repeats (Last w) y m h =
    ap (λ l. last_up_to (weekday_number w) (day (next_cycle y) (month_number m) l)) (days_in_month-repeats y (month_number m) h)
    ∙ ap (last_up_to (weekday_number w)) (day-repeats y (month_number m) (days_in_month y (month_number m)) h)
    ∙ last_up_to-repeats (weekday_number w) (day y (month_number m) (days_in_month y (month_number m)))
named_day-repeats (LastOnOrBefore w n) y m h =
    ap (last_up_to (weekday_number w)) (day-repeats y (month_number m) (nat_abs n) h)
    ∙ last_up_to-repeats (weekday_number w) (day y (month_number m) (nat_abs n))
named_day-repeats (FirstOnOrAfter w n) y m h =
    ap (first_from (weekday_number w)) (day-repeats y (month_number m) (nat_abs n) h)
    ∙ first_from-repeats (weekday_number w) (day y (month_number m) (nat_abs n))

instant_of-on : (clock : TimeType) (local offset saving : ℤ)
    → instant_of clock (seconds_on local) offset saving ≡ seconds_on (instant_of clock local offset saving)
unfolding instant_of
instant_of-on UTC local offset saving = refl
instant_of-on Standard local offset saving = omega (arith, signed)
instant_of-on Wall local offset saving = omega (arith, signed)

local_on : (d time : ℤ) → pos 86400 *ℤ days_on d +ℤ time ≡ seconds_on (pos 86400 *ℤ d +ℤ time)
local_on d time = omega (arith, signed)

pub moment-repeats : (rule : RuleInfo) (y offset saving : ℤ) → pos 0 ≤ℤ y
    → moment rule (next_cycle y) offset saving ≡ seconds_on (moment rule y offset saving)
unfolding moment
moment-repeats rule y offset saving h =
    ap (λ d. instant_of rule.time_type (pos 86400 *ℤ d +ℤ rule.time) offset saving) (named_day-repeats rule.day y rule.month h)
    ∙ ap (λ local. instant_of rule.time_type local offset saving) (local_on (named_day rule.day y rule.month) rule.time)
    ∙ instant_of-on rule.time_type (pos 86400 *ℤ named_day rule.day y rule.month +ℤ rule.time) offset saving
