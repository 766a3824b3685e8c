-- Values that are found to be the same by `==` are one value.
use Rattle.std.proofs.{Common.{◌≡◌, true, ◌&&◌, ap, rules}, lemmas.Bool.{and_parts}}
use Rattle.basics.specs.LogicLaws.{no_case}
use Rattle.zone_table.specs.declared.{change.ChangeTime.{ChangeTime}, change.ChangeTime.TheVariants.{UntilYear, UntilMonth, UntilDay, UntilTime}, day.DaySpec.{DaySpec}, month.Month.{Month}, time.TimeSpec.{TimeSpec}, time.TimeSpec.TheVariants.{Hours, HoursMinutes, HoursMinutesSeconds, Zero}, time.TimeSpecAndType.{TimeSpecAndType}, time.TimeType.{TimeType}, year.Year.{Year}}
use Rattle.zone_table.specs.contracts.change.ChangeTimePartialEq.TheImpl as of_end
use Rattle.zone_table.specs.contracts.day.DaySpecPartialEq.TheImpl as of_day
use Rattle.zone_table.specs.contracts.month.MonthPartialEq.TheImpl as of_month
use Rattle.zone_table.specs.contracts.time.TimeSpecAndTypePartialEq.TheImpl as of_marked_time
use Rattle.zone_table.specs.contracts.time.TimeSpecPartialEq.TheImpl as of_time
use Rattle.zone_table.specs.contracts.time.TimeTypePartialEq.TheImpl as of_clock
use Rattle.zone_table.specs.contracts.year.YearPartialEq.TheImpl as of_year

pub time_is : (a b : TimeSpec) → of_time.ghosts.eq a b ≡ true → a ≡ b
time_is (Hours a0) (Hours b0) h = search rules
time_is (HoursMinutes a0 a1) (HoursMinutes b0 b1) h = search rules
time_is (HoursMinutesSeconds a0 a1 a2) (HoursMinutesSeconds b0 b1 b2) h = search rules
time_is Zero Zero h = search rules
time_is (Hours a0) (HoursMinutes b0 b1) h = no_case h
time_is (Hours a0) (HoursMinutesSeconds b0 b1 b2) h = no_case h
time_is (Hours a0) Zero h = no_case h
time_is (HoursMinutes a0 a1) (Hours b0) h = no_case h
time_is (HoursMinutes a0 a1) (HoursMinutesSeconds b0 b1 b2) h = no_case h
time_is (HoursMinutes a0 a1) Zero h = no_case h
time_is (HoursMinutesSeconds a0 a1 a2) (Hours b0) h = no_case h
time_is (HoursMinutesSeconds a0 a1 a2) (HoursMinutes b0 b1) h = no_case h
time_is (HoursMinutesSeconds a0 a1 a2) Zero h = no_case h
time_is Zero (Hours b0) h = no_case h
time_is Zero (HoursMinutes b0 b1) h = no_case h
time_is Zero (HoursMinutesSeconds b0 b1 b2) h = no_case h

pub clock_is : (a b : TimeType) → of_clock.ghosts.eq a b ≡ true → a ≡ b
clock_is a b h = search rules

pub marked_time_is : (a b : TimeSpecAndType) → of_marked_time.ghosts.eq a b ≡ true → a ≡ b
marked_time_is a b h =
    let both = and_parts (of_time.ghosts.eq a.0 b.0) _ h in
    λ i. record { 0 = time_is a.0 b.0 both.0 i; 1 = clock_is a.1 b.1 both.1 i }

pub year_is : (a b : Year) → of_year.ghosts.eq a b ≡ true → a ≡ b
year_is a b h = search rules

pub month_is : (a b : Month) → of_month.ghosts.eq a b ≡ true → a ≡ b
month_is a b h = search rules

pub day_is : (a b : DaySpec) → of_day.ghosts.eq a b ≡ true → a ≡ b
day_is a b h = search rules

pub end_is : (a b : ChangeTime) → of_end.ghosts.eq a b ≡ true → a ≡ b
end_is (UntilYear a0) (UntilYear b0) h = ap UntilYear (year_is a0 b0 h)
end_is (UntilMonth a0 a1) (UntilMonth b0 b1) h =
    let both = and_parts (of_year.ghosts.eq a0 b0) (of_month.ghosts.eq a1 b1) h in
    λ i. UntilMonth (year_is a0 b0 both.0 i) (month_is a1 b1 both.1 i)
end_is (UntilDay a0 a1 a2) (UntilDay b0 b1 b2) h =
    let more = and_parts (of_year.ghosts.eq a0 b0) (of_month.ghosts.eq a1 b1 && of_day.ghosts.eq a2 b2) h in
    let both = and_parts (of_month.ghosts.eq a1 b1) (of_day.ghosts.eq a2 b2) more.1 in
    λ i. UntilDay (year_is a0 b0 more.0 i) (month_is a1 b1 both.0 i) (day_is a2 b2 both.1 i)
end_is (UntilTime a0 a1 a2 a3) (UntilTime b0 b1 b2 b3) h =
    let all = and_parts (of_year.ghosts.eq a0 b0) (of_month.ghosts.eq a1 b1 && (of_day.ghosts.eq a2 b2 && of_marked_time.ghosts.eq a3 b3)) h in
    let more = and_parts (of_month.ghosts.eq a1 b1) (of_day.ghosts.eq a2 b2 && of_marked_time.ghosts.eq a3 b3) all.1 in
    let both = and_parts (of_day.ghosts.eq a2 b2) (of_marked_time.ghosts.eq a3 b3) more.1 in
    λ i. UntilTime (year_is a0 b0 all.0 i) (month_is a1 b1 more.0 i) (day_is a2 b2 both.0 i) (marked_time_is a3 b3 both.1 i)
end_is (UntilYear a0) (UntilMonth b0 b1) h = no_case h
end_is (UntilYear a0) (UntilDay b0 b1 b2) h = no_case h
end_is (UntilYear a0) (UntilTime b0 b1 b2 b3) h = no_case h
end_is (UntilMonth a0 a1) (UntilYear b0) h = no_case h
end_is (UntilMonth a0 a1) (UntilDay b0 b1 b2) h = no_case h
end_is (UntilMonth a0 a1) (UntilTime b0 b1 b2 b3) h = no_case h
end_is (UntilDay a0 a1 a2) (UntilYear b0) h = no_case h
end_is (UntilDay a0 a1 a2) (UntilMonth b0 b1) h = no_case h
end_is (UntilDay a0 a1 a2) (UntilTime b0 b1 b2 b3) h = no_case h
end_is (UntilTime a0 a1 a2 a3) (UntilYear b0) h = no_case h
end_is (UntilTime a0 a1 a2 a3) (UntilMonth b0 b1) h = no_case h
end_is (UntilTime a0 a1 a2 a3) (UntilDay b0 b1 b2) h = no_case h
