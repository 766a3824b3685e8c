-- The weekdays' numbers are below 7, and where among seven days one with a weekday stands.
use Rattle.std.proofs.{Common.{◌≡◌, ℕ, ◌+◌, ◌-◌, ◌%◌, ◌<◌, ℤ, pos, ◌+ℤ◌, ap, arith, nat_eq, eq-eqb}, lemmas.Bool.Decides.{nat_tests}}
use Rattle.basics.specs.{DateLaws.{last_with-is}, WeekdayLaws.{weekday_of-later, weekday_of-small}, Weekdays.{weekday_of}}
use Rattle.zone_table.specs.{Days.{first_from}, Weekdays.{weekday_number}, declared.weekday.Weekday.{Weekday}, declared.weekday.Weekday.TheVariants.{Sunday, Monday, Tuesday, Wednesday, Thursday, Friday, Saturday}}

pub weekday_number-small : (w : Weekday) → weekday_number w < 7
weekday_number-small Sunday = omega arith
weekday_number-small Monday = omega arith
weekday_number-small Tuesday = omega arith
weekday_number-small Wednesday = omega arith
weekday_number-small Thursday = omega arith
weekday_number-small Friday = omega arith
weekday_number-small Saturday = omega arith

-- just one of the seven days from a day on has the weekday
pub first_from-is : (weekday : ℕ) (k : ℤ) → weekday < 7 → first_from weekday k ≡ k +ℤ pos ((weekday + 7 - weekday_of k) % 7)
unfolding first_from
first_from-is weekday k small =
    let start = weekday_of-small k in
    ap (λ n. k +ℤ pos n) (last_with-is (λ n. nat_eq (weekday_of (k +ℤ pos n)) weekday) 6 ((weekday + 7 - weekday_of k) % 7) (omega arith)
    (λ _. rw weekday_of-later (eq-eqb _ _ (omega arith)))
    (λ j above high. rw weekday_of-later (grind (arith, nat_tests))))
