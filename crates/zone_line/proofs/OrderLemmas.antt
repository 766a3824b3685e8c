-- Of several columns without a value, the first in the order of reading is the fault.
use Rattle.std.{proofs.Common.{◌≡◌, ℕ, List, [], ◌∷◌, Option, Some, None, Result, Ok, Err, refl}, specs.Prelude.{option_map, ok_or}}
use Rattle.zone_table.specs.{Faults.{Fault, refused}, Months.{month_field}, Weekdays.{weekday_field}, Years.{year_field}, Seconds.{with_type}, Values.{one_off}, declared.{fault.FaultKind.TheVariants.{InvalidDaySpec, InvalidTimeSpecAndType, NonWallClockInTimeSpec}, time.TimeSpec.{TimeSpec}, time.TimeSpecAndType.{TimeSpecAndType}}}
use Rattle.zone_table.specs.Results as results
use Rattle.zone_line.specs.{Clocks.{ClockTexts, minute_clock}, Columns.{InfoTexts, RuleTexts}, DayColumns.{DayTexts}, Fields.{to_field, type_field, day_field, time_field, wall_field, sided_day, day_of_month}}
use Rattle.zone_line.specs.{LineValues.{one_off_of, saving_field, until, end_of, info_of, rule_of}, Options.{first_some}, Times.{no_time, hours_alone, clock_time, clock_type, if_wall, time_of}}

abbrev fault_in : {A : Type 0} → Result A Fault → Option Fault
fault_in (Ok x) = None
fault_in (Err fault) = Some fault

-- a step of a reading, before the rest
step : {A B : Type 0} (r : Result A Fault) (next : A → Result B Fault) (rest : List (Option Fault))
    → ((x : A) → fault_in (next x) ≡ first_some rest) → fault_in (results.◌>>=◌ r next) ≡ first_some (fault_in r ∷ rest)
step (Ok x) next rest further = further x
step (Err fault) next rest further = refl

last : {A B : Type 0} (r : Result A Fault) (f : A → B) → fault_in (results.◌>>=◌ r (λ x. Ok (f x))) ≡ first_some (fault_in r ∷ [])
last r f = step r (λ x. Ok (f x)) [] (λ x. refl)

order_of_a_rule : (c : RuleTexts) → fault_in (rule_of c) ≡ first_some (
    fault_in (year_field c.from) ∷ fault_in (to_field c.to) ∷ fault_in (type_field c.kind) ∷ fault_in (month_field c.month)
    ∷ fault_in (day_field c.on) ∷ fault_in (time_field c.at) ∷ fault_in (wall_field c.save) ∷ [])
unfolding rule_of
order_of_a_rule c =
    step (year_field c.from) _ _ (λ from.
    step (to_field c.to) _ _ (λ to.
    step (type_field c.kind) _ _ (λ kind.
    step (month_field c.month) _ _ (λ month.
    step (day_field c.on) _ _ (λ day.
    step (time_field c.at) _ _ (λ time.
    step (wall_field c.save) _ [] (λ save. refl)))))))

order_of_a_zone : (line : List ℕ) (c : InfoTexts) → fault_in (info_of line c) ≡ first_some (
    fault_in (wall_field c.gmtoff) ∷ fault_in (saving_field c.rules) ∷ fault_in (end_of line c) ∷ [])
unfolding info_of
order_of_a_zone line c =
    step (wall_field c.gmtoff) _ _ (λ offset.
    step (saving_field c.rules) _ _ (λ saving.
    step (end_of line c) _ [] (λ end. refl)))

order_of_an_end : (year month day time : List ℕ) → fault_in (until year (Some month) (Some day) (Some time)) ≡ first_some (
    fault_in (year_field year) ∷ fault_in (month_field month) ∷ fault_in (day_field day) ∷ fault_in (time_field time) ∷ [])
unfolding until
order_of_an_end year month day time =
    step (year_field year) _ _ (λ y.
    step (month_field month) _ _ (λ m.
    step (day_field day) _ _ (λ d.
    step (time_field time) _ [] (λ t. refl))))

-- the weekday of a day comes before its number
order_of_a_day : (text : List ℕ) (c : DayTexts) → day_of_month c.day ≡ None →
    fault_in (sided_day text c) ≡ first_some (fault_in (weekday_field c.weekday) ∷ Some (refused InvalidDaySpec text) ∷ [])
unfolding sided_day
order_of_a_day text c no_number = step (weekday_field c.weekday) _ _ (λ weekday. rw no_number refl)

abbrev timed : ClockTexts → Option TimeSpec → Option TimeSpecAndType
timed parts time = option_map (λ time. with_type time (clock_type parts.flag)) time

abbrev if_timed : {A : Type 0} → List ℕ → Option A → Result A Fault
if_timed text time = ok_or time (refused InvalidTimeSpecAndType text)

abbrev if_by_wall : List ℕ → TimeSpecAndType → Result TimeSpec Fault
if_by_wall text time = ok_or (if_wall time) (refused NonWallClockInTimeSpec text)

-- an amount of time in RULES is read as one of GMTOFF or SAVE, since a text with a colon is no hyphen and no hours alone
amount_of_time : (text : List ℕ) (parts : ClockTexts) → minute_clock text ≡ Some parts → no_time text ≡ None → hours_alone text ≡ None →
    one_off_of text parts ≡ results.◌>>=◌ (wall_field text) (λ amount. Ok (one_off amount))
unfolding one_off_of wall_field time_of
amount_of_time text parts matched no_hyphen no_hours = rw (no_hyphen, no_hours, matched) (by (clock_time parts))
  where
    by : (time : Option TimeSpec) →
        results.◌>>=◌ (if_timed text time) (λ time.
        results.◌>>=◌ (if_by_wall text (with_type time (clock_type parts.flag))) (λ amount. Ok (one_off amount)))
        ≡ results.◌>>=◌ (results.◌>>=◌ (if_timed text (first_some (timed parts time ∷ []))) (if_by_wall text))
        (λ amount. Ok (one_off amount))
    by None = refl
    by (Some time) = refl
