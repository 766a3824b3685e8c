-- What rules give at instants that are known from outside.
use Rattle.std.{proofs.Common.{◌≡◌, refl, arith, ◌∙◌, ap, ℕ, Bool, ◌&&◌, nat_le, List, [], ◌∷◌, map, true, false, Option, Some, None, ℤ, pos, neg_ℤ, ◌+ℤ◌}, proofs.lemmas.Bool.{and_parts, leb-true}, specs.Int.{int_div_euclid}, specs.Prelude.{codes}}
use Rattle.basics.specs.{Dates.{last_with, year_of}, DateLaws.{year_of-day}, Days.{is_leap, days_in_year, days_in_month, days_after_zero, days_before_zero, year_start, days_through, days_into_year, day, IsCountedYear, IsDate}, SignedLaws.{signed}}
use Rattle.basics.specs.Weekdays.{weekday_of}
use Rattle.tz_posix.specs.{Days.{nth_weekday, rule_day, day_refusal}, InForce.{instant_in, is_saving, is_within, is_year, moment_of, moments_in, posix_total, rule_refusal, year_at, yearly_time}}
use Rattle.tz_posix.specs.{PosixZones.{Named, PosixZone, ruled, Given, Gives, posix_refusal}, Seconds.{offset_seconds, time_seconds}, Spells.{signed_times}, declared.date.Date.TheVariants.{J, N, M}, declared.error.Error.{Error}}
use Rattle.tz_posix.specs.declared.error.Error.TheVariants.{ComponentRange, DateTooLarge}
use Rattle.tz_posix.proofs.WorkedDates.{julian_is}
use Rattle.civil_base.specs.Instants.{seconds_of}

-- a second of a day of a year lies in that year
in_year : (y : ℤ) → IsCountedYear y → (m d : ℕ) → (nat_le 1 m && nat_le m 12 && nat_le 1 d && nat_le d (days_in_month y m)) ≡ true → (offset t : ℤ)
    → int_div_euclid (t +ℤ offset) (pos 86400) ≡ day y m d → year_at offset t ≡ y
unfolding year_at
in_year y years m d date offset t is =
    let b = and_parts (nat_le 1 m && nat_le m 12 && nat_le 1 d) _ date in
    let c = and_parts (nat_le 1 m && nat_le m 12) _ b.0 in
    let e = and_parts (nat_le 1 m) _ c.0 in
    ap year_of is ∙ year_of-day y m d years
    (record { first_month = leb-true _ _ e.0; last_month = leb-true _ _ e.1; first_day = leb-true _ _ c.1; last_day = leb-true _ _ b.1 })

years_2024 : IsCountedYear (pos 2024)
years_2024 = record { first = omega (arith, signed); last = omega (arith, signed) }

-- New York, -5:00 and -4:00, from the second Sunday of March to the first of November, at 02:00
abbrev new_york : ℤ → ℤ
new_york t = posix_total (neg_ℤ (pos 18000)) (neg_ℤ (pos 14400)) (M 3 2 0, pos 7200) (M 11 1 0, pos 7200) t

new_york_2024 : map new_york (pos 1710053999 ∷ pos 1710054000 ∷ pos 1730613599 ∷ pos 1730613600 ∷ [])
    ≡ neg_ℤ (pos 18000) ∷ neg_ℤ (pos 14400) ∷ neg_ℤ (pos 14400) ∷ neg_ℤ (pos 18000) ∷ []
unfolding
    posix_total is_saving instant_in rule_day nth_weekday last_with weekday_of
    is_leap days_in_year days_in_month days_after_zero year_start days_through days_into_year day
new_york_2024 = rw (
  in_year (pos 2024) years_2024 3 10 refl (neg_ℤ (pos 18000)) (pos 1710053999) refl,
  in_year (pos 2024) years_2024 3 10 refl (neg_ℤ (pos 18000)) (pos 1710054000) refl,
  in_year (pos 2024) years_2024 11 3 refl (neg_ℤ (pos 18000)) (pos 1730613599) refl,
  in_year (pos 2024) years_2024 11 3 refl (neg_ℤ (pos 18000)) (pos 1730613600) refl,
) refl

-- Sydney, +10:00 and +11:00, from the first Sunday of October at 02:00 to the first of April at 03:00
abbrev sydney : ℤ → ℤ
sydney t = posix_total (pos 36000) (pos 39600) (M 10 1 0, pos 7200) (M 4 1 0, pos 10800) t

sydney_2024 : map sydney (pos 1704067200 ∷ pos 1712419199 ∷ pos 1712419200 ∷ []) ≡ pos 39600 ∷ pos 39600 ∷ pos 36000 ∷ []
unfolding
    posix_total is_saving instant_in rule_day nth_weekday last_with weekday_of
    is_leap days_in_year days_in_month days_after_zero year_start days_through days_into_year day
sydney_2024 = rw (
  in_year (pos 2024) years_2024 1 1 refl (pos 36000) (pos 1704067200) refl,
  in_year (pos 2024) years_2024 4 7 refl (pos 36000) (pos 1712419199) refl,
  in_year (pos 2024) years_2024 4 7 refl (pos 36000) (pos 1712419200) refl,
) refl

-- +10:00 and +11:00, from midnight of the first of January to that of the tenth: the year begins before that at Greenwich
january : posix_total (pos 36000) (pos 39600) (J 1, pos 0) (J 10, pos 0) (pos 1704031200) ≡ pos 39600
unfolding
    posix_total is_saving instant_in rule_day
    is_leap days_in_year days_in_month days_after_zero year_start days_through days_into_year day
january =
    let first : IsDate (pos 1970) 1 1 =
    record { first_month = omega arith; last_month = omega arith; first_day = omega arith; last_day = omega arith } in
    let tenth : IsDate (pos 1970) 1 10 =
    record { first_month = omega arith; last_month = omega arith; first_day = omega arith; last_day = omega arith } in
    rw (
      in_year (pos 2024) years_2024 1 1 refl (pos 36000) (pos 1704031200) refl,
      julian_is (pos 2024) 1 1 1 first refl,
      julian_is (pos 2024) 1 10 10 tenth refl,
    ) refl

-- from 10 to 20, and from 20 round to 10
worked_within : map (is_within (pos 10) (pos 20)) (pos 9 ∷ pos 10 ∷ pos 19 ∷ pos 20 ∷ []) ≡ false ∷ true ∷ true ∷ false ∷ []
worked_within = refl

worked_round : map (is_within (pos 20) (pos 10)) (pos 9 ∷ pos 10 ∷ pos 19 ∷ pos 20 ∷ []) ≡ true ∷ false ∷ false ∷ true ∷ []
worked_round = refl

worked_never : map (is_within (pos 10) (pos 10)) (pos 9 ∷ pos 10 ∷ pos 11 ∷ []) ≡ false ∷ false ∷ false ∷ []
worked_never = refl

-- a time that is not written is two o'clock
worked_times : yearly_time (J 1, None) ∷ yearly_time (J 1, Some (record { hh = 3; mm = Some 4; ss = None })) ∷ []
    ≡ (J 1, pos 7200) ∷ (J 1, pos 11040) ∷ []
unfolding time_seconds
worked_times = refl

-- and after `-` it lies before midnight, in a footer
worked_signed_times : map (moment_of signed_times) ((J 1, None)
    ∷ (J 1, Some (record { positive = false; time = record { hh = 1; mm = None; ss = None } })) ∷ [])
    ≡ (J 1, pos 7200) ∷ (J 1, neg_ℤ (pos 3600)) ∷ []
unfolding offset_seconds time_seconds
worked_signed_times = refl

-- the start by clocks of standard time, the end by those of daylight saving time
worked_moments : moments_in (pos 3600) (pos 7200) (N 0, pos 0) (N 1, pos 0) (pos 1970) ≡ (neg_ℤ (pos 3600), pos 79200)
unfolding
    instant_in rule_day is_leap days_in_year days_in_month days_after_zero year_start days_through days_into_year day
worked_moments = refl

-- the last second of 9999, and the first past it where clocks are an hour ahead
last_year : year_at (pos 0) (pos 253402300799) ≡ pos 9999
unfolding is_leap days_in_year days_in_month days_after_zero year_start days_through days_into_year day
last_year =
    let years : IsCountedYear (pos 9999) = record { first = omega (arith, signed); last = omega (arith, signed) } in
    in_year (pos 9999) years 12 31 refl (pos 0) (pos 253402300799) refl

next_year : year_at (pos 3600) (pos 253402300799) ≡ pos 10000
unfolding is_leap days_in_year days_in_month days_after_zero year_start days_through days_into_year day
next_year =
    let years : IsCountedYear (pos 10000) = record { first = omega (arith, signed); last = omega (arith, signed) } in
    in_year (pos 10000) years 1 1 refl (pos 3600) (pos 253402300799) refl

-- the start before the end
first_refusals : rule_refusal (pos 0) (M 12 5 0) (N 365) (pos 253402300799) ∷ rule_refusal (pos 0) (N 365) (M 12 5 0) (pos 253402300799)
    ∷ rule_refusal (pos 0) (J 1) (M 12 5 0) (pos 253402300799) ∷ rule_refusal (pos 0) (J 1) (J 2) (pos 253402300799) ∷ []
    ≡ Some DateTooLarge ∷ Some ComponentRange ∷ Some DateTooLarge ∷ None ∷ []
unfolding
    rule_refusal day_refusal nth_weekday last_with weekday_of
    is_leap days_in_year days_in_month days_after_zero year_start days_through days_into_year day
first_refusals = rw last_year refl

year_refusal : rule_refusal (pos 3600) (J 1) (J 2) (pos 253402300799) ≡ Some ComponentRange
unfolding rule_refusal
year_refusal = rw next_year refl

-- dates have the years -9999 to 9999
worked_date_years : map is_year (neg_ℤ (pos 10000) ∷ neg_ℤ (pos 9999) ∷ pos 9999 ∷ pos 10000 ∷ []) ≡ false ∷ true ∷ true ∷ false ∷ []
worked_date_years = refl

-- the first second of -9999, and the same where clocks are an hour behind
first_year : year_at (pos 0) (neg_ℤ (pos 377705116800)) ≡ neg_ℤ (pos 9999)
unfolding is_leap days_in_year days_in_month days_after_zero days_before_zero year_start days_through days_into_year day
first_year =
    let years : IsCountedYear (neg_ℤ (pos 9999)) = record { first = omega (arith, signed); last = omega (arith, signed) } in
    in_year (neg_ℤ (pos 9999)) years 1 1 refl (pos 0) (neg_ℤ (pos 377705116800)) refl

year_before : year_at (neg_ℤ (pos 3600)) (neg_ℤ (pos 377705116800)) ≡ neg_ℤ (pos 10000)
unfolding is_leap days_in_year days_in_month days_after_zero days_before_zero year_start days_through days_into_year day
year_before =
    let years : IsCountedYear (neg_ℤ (pos 10000)) = record { first = omega (arith, signed); last = omega (arith, signed) } in
    in_year (neg_ℤ (pos 10000)) years 12 31 refl (neg_ℤ (pos 3600)) (neg_ℤ (pos 377705116800)) refl

first_second : rule_refusal (pos 0) (J 1) (J 2) (neg_ℤ (pos 377705116800)) ∷ rule_refusal (neg_ℤ (pos 3600)) (J 1) (J 2) (neg_ℤ (pos 377705116800)) ∷ []
    ≡ None ∷ Some ComponentRange ∷ []
unfolding rule_refusal day_refusal
first_second = rw (first_year, year_before) refl

-- what New York's rule gives an instant in nanoseconds: the last nanosecond of standard time in spring, and the next one
abbrev named : List ℕ → ℤ → Named
named name total = record { name = name; total = total }

abbrev eastern : PosixZone
eastern = ruled (named (codes "EST") (neg_ℤ (pos 18000))) (named (codes "EDT") (neg_ℤ (pos 14400))) (M 3 2 0, pos 7200) (M 11 1 0, pos 7200)

-- the offset, whether daylight saving time holds, and the abbreviation
abbrev IsGiven : Given → ℤ → Bool → List ℕ → Type 0
IsGiven given total saving name = (given.total ≡ total) × (given.saving ≡ saving) × (given.name ≡ name)

-- a nanosecond before a change, and at it
given_at : ((given : Given) → Gives eastern (pos 1710053999999999999) given → IsGiven given (neg_ℤ (pos 18000)) false (codes "EST"))
    × ((given : Given) → Gives eastern (pos 1710054000000000000) given → IsGiven given (neg_ℤ (pos 14400)) true (codes "EDT"))
unfolding
    seconds_of
    posix_total is_saving instant_in rule_day nth_weekday last_with weekday_of
    is_leap days_in_year days_in_month days_after_zero year_start days_through days_into_year day
given_at = (
  λ given gives.
      let year = in_year (pos 2024) years_2024 3 10 refl (neg_ℤ (pos 18000)) (pos 1710053999) refl in
      let saves : given.saving ≡ false = gives.saves ∙ rw year refl in
      (gives.total ∙ rw year refl, saves, gives.named ∙ rw saves refl),
  λ given gives.
      let year = in_year (pos 2024) years_2024 3 10 refl (neg_ℤ (pos 18000)) (pos 1710054000) refl in
      let saves : given.saving ≡ true = gives.saves ∙ rw year refl in
      (gives.total ∙ rw year refl, saves, gives.named ∙ rw saves refl),
)

-- a zone with a rule is refused by the start's day before the end's
abbrev first_of : List (Option Error) → Option Error
first_of [] = None
first_of (refused ∷ others) = refused

refused_by_the_start :
    posix_refusal (ruled (named (codes "A") (pos 0)) (named (codes "B") (pos 3600)) (M 12 5 0, pos 0) (N 365, pos 0)) (pos 253402300799000000000)
    ≡ Some DateTooLarge
unfolding seconds_of
refused_by_the_start = ap first_of first_refusals
