-- The values of lines are bounded.
use Rattle.std.proofs.Common.{◌≡◌, ℕ, ◌+◌, ◌-◌, ◌*◌, ◌^◌, ◌<◌, ℤ, pos, negsuc, neg_ℤ, ◌≤ℤ◌, Bool, true, false, ◌&&◌, nat_lt, List, [], ◌∷◌, Option, Some, None, Result, Ok, Err, IfOk, IfSome, IsTrue, refl, subst, arith, codes, bytes_eq, ltb-true}
use Rattle.std.proofs.lemmas.{Int.{ints}, Bool.{and_from, and_parts}, Grind.{common_steps}}
use Rattle.std.specs.{Prelude.{option_map, option_and_then, if◌then◌else◌}, Char.{is_ascii_digit}, Option.{option_map_or, ok_or}, Str.Parse.{without_leading_sign, signed_digits_value}}
use lib.Signed.{mag}
use Rattle.zone_table.specs.{LineBounds.{are_small_seconds, is_bounded_end, is_bounded_saving, is_bounded_info, is_bounded_rule, is_bounded_line}, Days.{is_day_of_month, has_day_of_month}, Faults.{Fault, refused}, declared.fault.FaultKind.TheVariants.{CouldNotParseSaving, InvalidDaySpec, InvalidLineType}, Months.{month_field}, Weekdays.{weekday_field}, Years.{year_field}, Seconds.{seconds_of, with_type}, Values.{SavingValue, InfoValue, RuleValue, LineValue}, declared.change.ChangeTime.{ChangeTime}, declared.day.DaySpec.{DaySpec}, declared.day.DaySpec.TheVariants.{Ordinal, LastOnOrBefore, FirstOnOrAfter}, declared.time.{TimeSpec.{TimeSpec}, TimeSpec.TheVariants.{Hours, HoursMinutes, HoursMinutesSeconds, Zero}, TimeSpecAndType.{TimeSpecAndType}, TimeType.{TimeType}, TimeType.TheVariants.{Wall, Standard, UTC}}}
use Rattle.zone_table.specs.Results as results
use Rattle.zone_line.specs.{Clocks.{ClockTexts, clock_in, minute_clock}, Columns.{InfoTexts, RuleTexts}, DayColumns.{DayTexts, day_columns}}
use Rattle.zone_line.specs.{Fields.{to_field, type_field, day_numbered, day_of_month, sided_day, last_weekday, after_last, day_field, time_field, wall_field, is_ruleset_name}, Kinds.{LineKind, kind_of}}
use Rattle.zone_line.specs.{LineValues.{one_off_of, saving_field, until, has_yearless_end, some_end, end_of, info_of, rule_of, value_of_kind, value}, Digits.{two_digits, digit_of}, Options.{first_some}}
use Rattle.zone_line.specs.Times.{no_time, hours_alone, is_bare, signed, clock_type, clock_time, time_of, if_wall, if_by_wall}
use Rattle.zone_line.specs.Kinds as kind
use Rattle.basics.specs.Numbers.{is_numeral, signed_in}

-- what passes through the steps of a reading
onward : {A B E : Type 0} (P : A → Type 0) (Q : B → Type 0) (r : Result A E) (next : A → Result B E)
    → IfOk r P → ((x : A) → P x → IfOk (next x) Q) → IfOk (results.◌>>=◌ r next) Q
onward P Q (Ok x) next passes rest = rest x passes
onward P Q (Err e) next passes rest = tt

some_onward : {A B : Type 0} (P : A → Type 0) (Q : B → Type 0) (o : Option A) (next : A → Option B)
    → IfSome o P → ((x : A) → P x → IfSome (next x) Q) → IfSome (option_and_then next o) Q
some_onward P Q (Some x) next passes rest = rest x passes
some_onward P Q None next passes rest = tt

some_mapped : {A B : Type 0} (P : A → Type 0) (Q : B → Type 0) (o : Option A) (f : A → B)
    → IfSome o P → ((x : A) → P x → Q (f x)) → IfSome (option_map f o) Q
some_mapped P Q (Some x) f passes rest = rest x passes
some_mapped P Q None f passes rest = tt

some_weaker : {A : Type 0} (P Q : A → Type 0) (o : Option A) → IfSome o P → ((x : A) → P x → Q x) → IfSome o Q
some_weaker P Q (Some x) passes rest = rest x passes
some_weaker P Q None passes rest = tt

abbrev Any : {A : Type 0} → A → Type 0
Any _ = Unit {0}

any_ok : {A E : Type 0} (r : Result A E) → IfOk r Any
any_ok (Ok x) = tt
any_ok (Err e) = tt

some_where : {A : Type 0} (P : A → Type 0) (b : Bool) (o : Option A) → (b ≡ true → IfSome o P) → IfSome (if b then o else None) P
some_where P true o passes = passes refl
some_where P false o passes = tt

ok_where : {A E : Type 0} (P : A → Type 0) (o : Option A) (e : E) → IfSome o P → IfOk (ok_or o e) P
ok_where P (Some x) e passes = passes
ok_where P None e passes = tt

either : {A : Type 0} (P : A → Type 0) (b : Bool) (x y : A) → P x → P y → P (if b then x else y)
either P true x y first second = first
either P false x y first second = second

ok_either : {A E : Type 0} (P : A → Type 0) (b : Bool) (first second : Result A E)
    → IfOk first P → IfOk second P → IfOk (if b then first else second) P
ok_either P true first second passes rest = passes
ok_either P false first second passes rest = rest

-- amounts of seconds
abbrev Within : ℕ → ℤ → Type 0
Within n z = (neg_ℤ (pos n) ≤ℤ z) × (z ≤ℤ pos n)

abbrev HasSmallSeconds : TimeSpec → Type 0
HasSmallSeconds time = IsTrue (are_small_seconds (seconds_of time))

small_is : (z : ℤ) → Within 1000000 z → IsTrue (are_small_seconds z)
small_is z within = grind (arith, common_steps, within.0, within.1)

mag_within : (z : ℤ) → mag z < 128 → Within 128 z
mag_within (pos n) small = (omega (arith, ints), omega (arith, ints))
mag_within (negsuc n) small = (omega (arith, ints), omega (arith, ints))

signed_in-within : (text : List ℕ) → IfSome (signed_in 128 text) (Within 128)
unfolding signed_in
signed_in-within text = some_where (Within 128)
    (is_numeral (without_leading_sign text) && nat_lt (mag (signed_digits_value 10 text)) 128)
    (Some (signed_digits_value 10 text))
    (λ passed. mag_within (signed_digits_value 10 text) (ltb-true _ _ (and_parts (is_numeral (without_leading_sign text)) _ passed).1))

digit_of-small : (c : ℕ) → IfSome (digit_of c) (λ n. n < 10)
digit_of-small c = some_where (λ n. n < 10) (is_ascii_digit c) (Some (c - 48)) (λ passed. grind (arith, common_steps, passed))

two_digits-small : (text : List ℕ) → IfSome (two_digits text) (λ n. n < 100)
unfolding two_digits
two_digits-small [] = tt
two_digits-small (ones ∷ []) = some_weaker (λ n. n < 10) (λ n. n < 100) (digit_of ones) (digit_of-small ones) (λ n small. omega arith)
two_digits-small (tens ∷ ones ∷ []) =
    some_onward (λ n. n < 10) (λ n. n < 100) (digit_of tens) (λ t. option_map (λ o. 10 * t + o) (digit_of ones)) (digit_of-small tens)
    (λ t small. some_mapped (λ n. n < 10) (λ n. n < 100) (digit_of ones) (λ o. 10 * t + o) (digit_of-small ones) (λ o low. omega arith))
two_digits-small (a ∷ b ∷ c ∷ rest) = tt

signed-within : (sign : List ℕ) (part : ℕ) → part < 100 → Within 99 (signed sign part)
signed-within sign part small = either (Within 99) (bytes_eq sign (codes "-")) (neg_ℤ (pos part)) (pos part)
    (omega (arith, ints), omega (arith, ints))
    (omega (arith, ints), omega (arith, ints))

minutes-small : (h m : ℤ) → Within 99 h → Within 99 m → HasSmallSeconds (HoursMinutes h m)
minutes-small h m hours minutes = small_is (seconds_of (HoursMinutes h m))
    (omega (arith, ints, hours.0, hours.1, minutes.0, minutes.1), omega (arith, ints, hours.0, hours.1, minutes.0, minutes.1))

seconds-small : (h m s : ℤ) → Within 99 h → Within 99 m → Within 99 s → HasSmallSeconds (HoursMinutesSeconds h m s)
seconds-small h m s hours minutes seconds = small_is (seconds_of (HoursMinutesSeconds h m s)) (
  omega (arith, ints, hours.0, hours.1, minutes.0, minutes.1, seconds.0, seconds.1),
  omega (arith, ints, hours.0, hours.1, minutes.0, minutes.1, seconds.0, seconds.1),
)

hours-small : (h : ℤ) → Within 128 h → HasSmallSeconds (Hours h)
hours-small h hours = small_is (seconds_of (Hours h)) (omega (arith, ints, hours.0, hours.1), omega (arith, ints, hours.0, hours.1))

clock_time-small : (c : ClockTexts) → IfSome (clock_time c) HasSmallSeconds
unfolding clock_time
clock_time-small c =
    some_onward (λ n. n < 100) HasSmallSeconds (two_digits c.hour) _ (two_digits-small c.hour) (λ hour few.
    some_onward (λ n. n < 100) HasSmallSeconds (two_digits c.minute) _ (two_digits-small c.minute) (λ minute small.
    by hour minute few small c.second))
  where
    by : (hour minute : ℕ) → hour < 100 → minute < 100 → (second : Option (List ℕ))
        → IfSome (option_map_or
        (λ text.
        option_map (λ second. HoursMinutesSeconds (signed c.sign hour) (signed c.sign minute) (signed c.sign second)) (two_digits text))
        second
        (Some (HoursMinutes (signed c.sign hour) (signed c.sign minute)))) HasSmallSeconds
    by hour minute few small None =
        minutes-small _ _ (signed-within c.sign hour few) (signed-within c.sign minute small)
    by hour minute few small (Some text) =
        some_mapped (λ n. n < 100) HasSmallSeconds (two_digits text) _ (two_digits-small text)
        (λ second least.
        seconds-small _ _ _ (signed-within c.sign hour few) (signed-within c.sign minute small) (signed-within c.sign second least))

abbrev Timed : TimeSpecAndType → Type 0
Timed time = HasSmallSeconds time.0

first_of_two : {A : Type 0} (P : A → Type 0) (o : Option A) (rest : List (Option A))
    → IfSome o P → IfSome (first_some rest) P → IfSome (first_some (o ∷ rest)) P
first_of_two P (Some x) rest passes later = passes
first_of_two P None rest passes later = later

hours_alone-small : (text : List ℕ) → IfSome (hours_alone text) Timed
hours_alone-small text = some_where Timed (is_bare text) (option_map (λ hours. with_type (Hours hours) Wall) (signed_in (2 ^ 7) text))
    (λ _. some_mapped (Within 128) Timed (signed_in 128 text) _ (signed_in-within text) hours-small)

time_of-small : (text : List ℕ) → IfSome (time_of text) Timed
unfolding time_of
time_of-small text =
    first_of_two Timed (no_time text) _ (some_where Timed (bytes_eq text (codes "-")) (Some (with_type Zero Wall)) (λ _. refl)) (
    first_of_two Timed (hours_alone text) _ (hours_alone-small text) (
    first_of_two Timed (option_and_then (λ c. option_map (λ time. with_type time (clock_type c.flag)) (clock_time c)) (clock_in text)) []
    (some_onward (λ _. Unit {0}) Timed (clock_in text) _ (any (clock_in text))
    (λ c _. some_mapped HasSmallSeconds Timed (clock_time c) _ (clock_time-small c) (λ _ small. small))) tt))
  where
    any : {A : Type 0} (o : Option A) → IfSome o (λ _. Unit {0})
    any None = tt
    any (Some x) = tt

time_field-small : (text : List ℕ) → IfOk (time_field text) Timed
time_field-small text = ok_where Timed (time_of text) _ (time_of-small text)

if_wall-small : (time : TimeSpecAndType) → Timed time → IfSome (if_wall time) HasSmallSeconds
if_wall-small time small = by time.1
  where
    by : (clock : TimeType) → IfSome (if_by_wall clock time.0) HasSmallSeconds
    by Wall = small
    by Standard = tt
    by UTC = tt

wall_field-small : (text : List ℕ) → IfOk (wall_field text) HasSmallSeconds
unfolding wall_field
wall_field-small text = onward Timed HasSmallSeconds (time_field text) _ (time_field-small text)
    (λ time small. ok_where HasSmallSeconds (if_wall time) _ (if_wall-small time small))

-- days
abbrev Numbered : DaySpec → Type 0
Numbered day = IsTrue (has_day_of_month day)

day_numbered-passes : (text : List ℕ) → IfSome (day_numbered text) (λ n. IsTrue (is_day_of_month n))
day_numbered-passes text = some_of (signed_in (2 ^ 7) text)
  where
    some_of : (o : Option ℤ) →
        IfSome (option_and_then (λ n. if is_day_of_month n then Some n else None) o) (λ n. IsTrue (is_day_of_month n))
    some_of None = tt
    some_of (Some n) = some_where (λ n. IsTrue (is_day_of_month n)) (is_day_of_month n) (Some n) (λ passed. passed)

day_of_month-passes : (text : List ℕ) → IfSome (day_of_month text) (λ n. IsTrue (is_day_of_month n))
day_of_month-passes text = some_where (λ n. IsTrue (is_day_of_month n)) (is_numeral text) _ (λ _. day_numbered-passes text)

sided_day-passes : (text : List ℕ) (columns : DayTexts) → IfOk (sided_day text columns) Numbered
unfolding sided_day
sided_day-passes text columns =
    onward (λ _. Unit {0}) Numbered (weekday_field columns.weekday) _ (any_ok (weekday_field columns.weekday)) (λ weekday _.
    onward (λ n. IsTrue (is_day_of_month n)) Numbered (ok_or (day_of_month columns.day) (refused InvalidDaySpec text)) _
    (ok_where (λ n. IsTrue (is_day_of_month n)) (day_of_month columns.day) _ (day_of_month-passes columns.day))
    (λ number passed.
    either Numbered (bytes_eq columns.sign (codes "<=")) (LastOnOrBefore weekday number) (FirstOnOrAfter weekday number) passed passed))

last_weekday-passes : (text : List ℕ) → IfOk (last_weekday text) Numbered
unfolding last_weekday
last_weekday-passes text = onward (λ _. Unit {0}) Numbered (weekday_field text) _ (any_ok (weekday_field text)) (λ weekday _. refl)

day_field-passes : (text : List ℕ) → IfOk (day_field text) Numbered
unfolding day_field
day_field-passes text = ok_either Numbered (is_numeral text) _ _
    (ok_where Numbered (option_map Ordinal (day_numbered text)) _
    (some_mapped (λ n. IsTrue (is_day_of_month n)) Numbered (day_numbered text) Ordinal (day_numbered-passes text) (λ n passed. passed)))
    (after (after_last text) (day_columns text))
  where
    sided_or : (o : Option DayTexts) → IfOk (option_map_or (sided_day text) o (Err (refused InvalidDaySpec text))) Numbered
    sided_or None = tt
    sided_or (Some columns) = sided_day-passes text columns

    after : (o : Option (List ℕ)) (p : Option DayTexts)
        → IfOk (option_map_or last_weekday o (option_map_or (sided_day text) p (Err (refused InvalidDaySpec text)))) Numbered
    after None p = sided_or p
    after (Some rest) p = last_weekday-passes rest

-- ends
abbrev Bounded : ChangeTime → Type 0
Bounded end = IsTrue (is_bounded_end end)

until-bounded : (year : List ℕ) (month day time : Option (List ℕ)) → IfOk (until year month day time) Bounded
unfolding until
until-bounded year None day time = onward Any Bounded (year_field year) _ (any_ok (year_field year)) (λ y _. refl)
until-bounded year (Some month) None time =
    onward Any Bounded (year_field year) _ (any_ok (year_field year)) (λ y _.
    onward Any Bounded (month_field month) _ (any_ok (month_field month)) (λ m _. refl))
until-bounded year (Some month) (Some day) None =
    onward Any Bounded (year_field year) _ (any_ok (year_field year)) (λ y _.
    onward Any Bounded (month_field month) _ (any_ok (month_field month)) (λ m _.
    onward Numbered Bounded (day_field day) _ (day_field-passes day) (λ d numbered. and_from (has_day_of_month d) true numbered refl)))
until-bounded year (Some month) (Some day) (Some time) =
    onward Any Bounded (year_field year) _ (any_ok (year_field year)) (λ y _.
    onward Any Bounded (month_field month) _ (any_ok (month_field month)) (λ m _.
    onward Numbered Bounded (day_field day) _ (day_field-passes day) (λ d numbered.
    onward Timed Bounded (time_field time) _ (time_field-small time) (λ t small. and_from (has_day_of_month d) _ numbered small))))

-- lines
abbrev BoundedSaving : SavingValue → Type 0
BoundedSaving saving = IsTrue (is_bounded_saving saving)

abbrev BoundedEnd : Option ChangeTime → Type 0
BoundedEnd end = IsTrue (option_map_or is_bounded_end end true)

abbrev BoundedInfo : InfoValue → Type 0
BoundedInfo info = IsTrue (is_bounded_info info)

abbrev BoundedRule : RuleValue → Type 0
BoundedRule r = IsTrue (is_bounded_rule r)

one_off_of-bounded : (text : List ℕ) (parts : ClockTexts) → IfOk (one_off_of text parts) BoundedSaving
unfolding one_off_of
one_off_of-bounded text parts =
    onward HasSmallSeconds BoundedSaving (ok_or (clock_time parts) _) _
    (ok_where HasSmallSeconds (clock_time parts) _ (clock_time-small parts)) (λ time small.
    let timed = with_type time (clock_type parts.flag) in
    onward HasSmallSeconds BoundedSaving (ok_or (if_wall timed) _) _
    (ok_where HasSmallSeconds (if_wall timed) _ (if_wall-small timed small)) (λ amount held. held))

saving_field-bounded : (text : List ℕ) → IfOk (saving_field text) BoundedSaving
unfolding saving_field
saving_field-bounded text =
    ok_either BoundedSaving (bytes_eq text (codes "-")) _ _ refl (
    ok_either BoundedSaving (is_ruleset_name text) _ _ refl (by (minute_clock text)))
  where
    by : (parts : Option ClockTexts) → IfOk (option_map_or (one_off_of text) parts (Err (refused CouldNotParseSaving text))) BoundedSaving
    by None = tt
    by (Some parts) = one_off_of-bounded text parts

end_of-bounded : (line : List ℕ) (columns : InfoTexts) → IfOk (end_of line columns) BoundedEnd
unfolding end_of some_end
end_of-bounded line columns = by columns.year
  where
    by : (year : Option (List ℕ))
        → IfOk (option_map_or (λ year. some_end year columns) year
        (if has_yearless_end columns then Err (refused InvalidLineType line) else Ok None))
        BoundedEnd
    by None = ok_either BoundedEnd (has_yearless_end columns) _ _ tt refl
    by (Some year) = onward Bounded _ (until year columns.month columns.day columns.time) _
        (until-bounded year columns.month columns.day columns.time) (λ end bounded. bounded)

info_of-bounded : (line : List ℕ) (columns : InfoTexts) → IfOk (info_of line columns) BoundedInfo
unfolding info_of
info_of-bounded line columns =
    onward HasSmallSeconds BoundedInfo (wall_field columns.gmtoff) _ (wall_field-small columns.gmtoff) (λ offset small.
    onward BoundedSaving BoundedInfo (saving_field columns.rules) _ (saving_field-bounded columns.rules) (λ saving held.
    onward BoundedEnd BoundedInfo (end_of line columns) _ (end_of-bounded line columns) (λ end bounded.
    and_from _ _ (and_from _ _ small held) bounded)))

rule_of-bounded : (columns : RuleTexts) → IfOk (rule_of columns) BoundedRule
unfolding rule_of
rule_of-bounded columns =
    onward Any BoundedRule (year_field columns.from) _ (any_ok (year_field columns.from)) (λ from _.
    onward Any BoundedRule (to_field columns.to) _ (any_ok (to_field columns.to)) (λ to _.
    onward Any BoundedRule (type_field columns.kind) _ (any_ok (type_field columns.kind)) (λ kind _.
    onward Any BoundedRule (month_field columns.month) _ (any_ok (month_field columns.month)) (λ month _.
    onward Numbered BoundedRule (day_field columns.on) _ (day_field-passes columns.on) (λ day numbered.
    onward Timed BoundedRule (time_field columns.at) _ (time_field-small columns.at) (λ time small.
    onward HasSmallSeconds BoundedRule (wall_field columns.save) _ (wall_field-small columns.save) (λ saving added.
    and_from _ _ (and_from _ _ numbered small) added)))))))

kind-bounded : (line : List ℕ) (k : LineKind) → IfOk (value_of_kind line k) (λ v. IsTrue (is_bounded_line v))
unfolding value_of_kind
kind-bounded line kind.space = refl
kind-bounded line (kind.zone columns) =
    onward BoundedInfo _ (info_of line columns.info) _ (info_of-bounded line columns.info) (λ info bounded. bounded)
kind-bounded line (kind.continuation columns) =
    onward BoundedInfo _ (info_of line columns) _ (info_of-bounded line columns) (λ info bounded. bounded)
kind-bounded line (kind.rule columns) = onward BoundedRule _ (rule_of columns) _ (rule_of-bounded columns) (λ r bounded. bounded)
kind-bounded line (kind.link columns) = refl

-- the value of each line is bounded
value-bounded : (line : List ℕ) → IfOk (value line) (λ v. IsTrue (is_bounded_line v))
unfolding value
value-bounded line = by (kind_of line)
  where
    by : (k : Option LineKind) →
        IfOk (option_map_or (value_of_kind line) k (Err (refused InvalidLineType line))) (λ v. IsTrue (is_bounded_line v))
    by None = tt
    by (Some k) = kind-bounded line k

-- so is what a line's reading gives
pub read-bounded : (line : List ℕ) (v : LineValue) → value line ≡ Ok v → IsTrue (is_bounded_line v)
read-bounded line v read = subst (λ (r : Result LineValue Fault). IfOk r (λ v. IsTrue (is_bounded_line v))) read (value-bounded line)
