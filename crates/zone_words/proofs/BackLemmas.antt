-- What is written is read again.
use Rattle.std.proofs.Common.{◌≡◌, refl, sym, ap, subst, ◌∙◌, arith, ℕ, suc, ◌+◌, ◌-◌, ◌*◌, ◌/◌, ◌%◌, ◌^◌, ◌<◌, ◌≤◌, Bool, true, false, ◌&&◌, cond}
use Rattle.std.proofs.{Common.{List, [], ◌∷◌, ◌++◌, length, length-append, append_assoc, ℤ, pos, ◌≤ℤ◌, ◌+ℤ◌, ◌*ℤ◌, int_lt, unsigned_abs, if◌then◌else◌, decimal}, lemmas.Bool.{and_parts, and_from}, lemmas.Bool.Decides.{nat_tests}, lemmas.Fmt.{decimal_by_steps}}
use Rattle.std.specs.{Char.{is_ascii_digit}, List.{list_all}}
use Rattle.basics.specs.{Days.{day, IsDate}, Dates.{year_of, month_of, day_of}, MonthLaws.{days_in_month-bounds}, SignedLaws.{signed, one_sided, natural}}
use Rattle.civil_base.specs.{Clock.{nanos_per_day, hour_of, minute_of, second_of, nanosecond_of, time_at}, ClockLaws.{clock_parts, time_at-parts}, DayLaws.{date_of-day}, DigitLaws.{four_digits-halves, nine_digits-parts}, Instants.{instant_at}}
use Rattle.civil_base.specs.{Layout.{digit, two_digits, four_digits, nine_digits, year_sign, date_digits, day_part, time_part}, LayoutLaws.{year_sign-other}, Offsets.{signed_by}, OffsetLaws.{signed_by-size}}
use Rattle.civil_base.specs.{PartLaws.{day_part-inside, time_part-inside, parts-joined}, Ranges.{IsInYears}, RangeLaws.{years_near}}
use Rattle.zone_words.{proofs.NumberLemmas.{ten_times}, specs.{Numbers.{number_after, moment, seconds_east, counted}, Spells.{SpellsDate, date, minute, SpellsFraction, whole, digits, SpellsTime, time, Exist, SpellsLocal, to_second, SpellsOffset, east, west, AreDigits, SpellsInstant, since, before, zoned}, Written.{is_zero, shortest, pointed, fraction_text, clock_text, moment_text, offset_shown, rfc3339_text, epoch_text}, declared.form.{WrittenDate.{WrittenDate}, WrittenTime.{WrittenTime}, WrittenOffset.{WrittenOffset}}}}

-- numbers by their digits

two_value : (k n : ℕ) (rest : List ℕ) → n < 100 → number_after k (two_digits n ++ rest) ≡ number_after (100 * k + n) rest
two_value k n rest small =
    let e : 10 * (10 * k + (digit n 10 - 48)) + (digit n 1 - 48) ≡ 100 * k + n = omega arith in
    ap (λ m. number_after m rest) e

four_value : (k n : ℕ) (rest : List ℕ) → n < 10000 → number_after k (four_digits n ++ rest) ≡ number_after (10000 * k + n) rest
four_value k n rest small =
    let e : 100 * (100 * k + n / 100) + n % 100 ≡ 10000 * k + n = omega arith in
    ap (λ l. number_after k (l ++ rest)) (four_digits-halves n) ∙ two_value k (n / 100) (two_digits (n % 100) ++ rest) (omega arith)
    ∙ two_value (100 * k + n / 100) (n % 100) rest (omega arith) ∙ ap (λ m. number_after m rest) e

nine_value : (n : ℕ) → n < 1000000000 → number_after 0 (nine_digits n) ≡ n
nine_value n small =
    let e : 10 * (10000 * (10000 * 0 + n / 100000) + n / 10 % 10000) + (digit n 1 - 48) ≡ n = omega arith in
    ap (number_after 0) (nine_digits-parts n) ∙ ap (number_after 0) (append_assoc (four_digits (n / 100000)) (four_digits (n / 10 % 10000)) (digit n 1 ∷ []))
    ∙ four_value 0 (n / 100000) (four_digits (n / 10 % 10000) ++ digit n 1 ∷ []) (omega arith)
    ∙ four_value (10000 * 0 + n / 100000) (n / 10 % 10000) (digit n 1 ∷ []) (omega arith) ∙ e

nine_are : (n : ℕ) → list_all is_ascii_digit (nine_digits n) ≡ true
nine_are n =
    let is : (place : ℕ) → is_ascii_digit (digit n place) ≡ true = λ place. one_is (n / place % 10) (omega arith) in
    and_from _ _ (is 100000000) (and_from _ _ (is 10000000) (and_from _ _ (is 1000000) (and_from _ _ (is 100000) (and_from _ _ (is 10000)
    (and_from _ _ (is 1000) (and_from _ _ (is 100) (and_from _ _ (is 10) (and_from _ _ (is 1) refl))))))))
  where
    one_is : (d : ℕ) → d < 10 → is_ascii_digit (48 + d) ≡ true
    one_is d small = grind (arith, nat_tests)

zeros_value : (k : ℕ) (ds : List ℕ) → list_all is_zero ds ≡ true → k * 10 ^ length ds ≡ number_after k ds
zeros_value k [] zeros = omega arith
zeros_value k (c ∷ ds) zeros =
    let both = and_parts (is_zero c) _ zeros in
    let first : 10 * k + (c - 48) ≡ k * 10 = grind (arith, nat_tests, both.0) in
    ten_times k (length ds) ∙ zeros_value (k * 10) ds both.1 ∙ ap (λ m. number_after m ds) (sym first)

shortest_value : (k : ℕ) (ds : List ℕ) → number_after k (shortest ds) * 10 ^ (length ds - length (shortest ds)) ≡ number_after k ds
shortest_value k [] = omega arith
shortest_value k (c ∷ ds) = by_test (is_zero c && list_all is_zero ds) refl (shortest_value (10 * k + (c - 48)) ds)
  where
    by_test : (b : Bool) → is_zero c && list_all is_zero ds ≡ b
        → number_after (10 * k + (c - 48)) (shortest ds) * 10 ^ (length ds - length (shortest ds)) ≡ number_after (10 * k + (c - 48)) ds
        → number_after k (cond b [] (c ∷ shortest ds)) * 10 ^ (length (c ∷ ds) - length (cond b [] (c ∷ shortest ds))) ≡ number_after k (c ∷ ds)
    by_test true e more =
        let all : suc (length ds) - 0 ≡ suc (length ds) = omega arith in
        rw all (zeros_value k (c ∷ ds) e)
    by_test false e more =
        let same : length (c ∷ ds) - length (c ∷ shortest ds) ≡ length ds - length (shortest ds) = omega arith in
        rw same more

shortest_are : (ds : List ℕ) → list_all is_ascii_digit ds ≡ true → (list_all is_ascii_digit (shortest ds) ≡ true) × (length (shortest ds) ≤ length ds)
shortest_are [] are = (refl, omega arith)
shortest_are (c ∷ ds) are =
    let both = and_parts (is_ascii_digit c) _ are in
    by_test (is_zero c && list_all is_zero ds) both.0 (shortest_are ds both.1)
  where
    by_test : (b : Bool) → is_ascii_digit c ≡ true → (list_all is_ascii_digit (shortest ds) ≡ true) × (length (shortest ds) ≤ length ds)
        → (list_all is_ascii_digit (cond b [] (c ∷ shortest ds)) ≡ true) × (length (cond b [] (c ∷ shortest ds)) ≤ length (c ∷ ds))
    by_test true is more = (refl, omega arith)
    by_test false is more = (and_from _ _ is more.0, omega arith)

fraction_back : (n : ℕ) → n < 1000000000 → SpellsFraction (fraction_text n) n
unfolding fraction_text
fraction_back n small = by_digits (shortest (nine_digits n)) (shortest_are (nine_digits n) (nine_are n)) (shortest_value 0 (nine_digits n) ∙ nine_value n small)
  where
    by_digits : (ds : List ℕ) → (list_all is_ascii_digit ds ≡ true) × (length ds ≤ 9) → number_after 0 ds * 10 ^ (9 - length ds) ≡ n
        → SpellsFraction (pointed ds) n
    by_digits [] are value = subst (SpellsFraction []) value whole
    by_digits (c ∷ ds) are value =
        subst (SpellsFraction (46 ∷ (c ∷ ds))) value (digits (record { some = omega arith; most = are.1; digits = are.0 }))

all_digits-snoc : (xs : List ℕ) (c : ℕ) → list_all is_ascii_digit xs ≡ true → is_ascii_digit c ≡ true → list_all is_ascii_digit (xs ++ c ∷ []) ≡ true
all_digits-snoc [] c are is = and_from _ _ is refl
all_digits-snoc (x ∷ xs) c are is =
    let both = and_parts (is_ascii_digit x) _ are in
    and_from _ _ both.0 (all_digits-snoc xs c both.1 is)

number-snoc : (k : ℕ) (xs : List ℕ) (c : ℕ) → number_after k (xs ++ c ∷ []) ≡ 10 * number_after k xs + (c - 48)
number-snoc k [] c = refl
number-snoc k (x ∷ xs) c = number-snoc (10 * k + (x - 48)) xs c

decimal_back : (n : ℕ) → n < 2 ^ 64 → AreDigits (decimal n) n
decimal_back n small = decimal_by_steps (λ m ds. AreDigits ds m) one more n small
  where
    one : (m : ℕ) → m < 10 → AreDigits ((48 + m) ∷ []) m
    one m few =
        let is : is_ascii_digit (48 + m) ≡ true = grind (arith, nat_tests) in
        record { some = omega arith; digits = and_from _ _ is refl; value = omega arith }

    more : (m : ℕ) (ds : List ℕ) → 10 ≤ m → AreDigits ds (m / 10) → AreDigits (ds ++ (48 + m % 10) ∷ []) m
    more m ds many are =
        let is : is_ascii_digit (48 + m % 10) ≡ true = grind (arith, nat_tests) in
        record {
          some = omega (arith, length-append ds ((48 + m % 10) ∷ []));
          digits = all_digits-snoc ds _ are.digits is;
          value = number-snoc 0 ds _ ∙ (let e = are.value in omega arith);
        }

-- local times

abbrev date_parts : ℤ → WrittenDate
date_parts k = record { year = unsigned_abs (year_of k); month = month_of k; day = day_of k }

abbrev time_parts : ℕ → WrittenTime
time_parts t = record { hour = hour_of t; minute = minute_of t; second = second_of t; nanosecond = nanosecond_of t }

date_back : (x : ℤ) → IsInYears x → pos 0 ≤ℤ year_of (day_part x)
    → SpellsDate (year_sign (year_of (day_part x)) ++ date_digits (day_part x)) (date_parts (day_part x))
unfolding date_digits
date_back x years from_zero =
    let k = day_part x in
    let has = date_of-day k (day_part-inside x years) in
    rw (year_sign-other (year_of k) from_zero) (date {y = unsigned_abs (year_of k)} {m = month_of k} {d = day_of k} (omega (arith, signed, one_sided (year_of k), has.year.first, has.year.last))
    (omega (arith, has.date.last_month)) (omega (arith, has.date.last_day, days_in_month-bounds (year_of k) (month_of k))))

time_back : (t : ℕ) → t < nanos_per_day → SpellsTime (clock_text t ++ fraction_text (nanosecond_of t)) (time_parts t)
unfolding clock_text
time_back t small =
    let shown = clock_parts t small in
    time (minute {h = hour_of t} {m = minute_of t} (omega (arith, shown.hours)) (omega (arith, shown.minutes))) (omega (arith, shown.seconds))
    (fraction_back (nanosecond_of t) shown.nanoseconds)

exist_back : (x : ℤ) → IsInYears x → pos 0 ≤ℤ year_of (day_part x)
    → Exist (date_parts (day_part x)) (time_parts (time_part x)) × (moment (date_parts (day_part x)) (time_parts (time_part x)) ≡ x)
unfolding moment
exist_back x years from_zero =
    let k = day_part x in
    let has = date_of-day k (day_part-inside x years) in
    let year = natural (year_of k) from_zero in (
      record { date = subst (λ y. IsDate y (month_of k) (day_of k)) year has.date; time = clock_parts (time_part x) (time_part-inside x) },
      ap (λ y. day y (month_of k) (day_of k) *ℤ pos nanos_per_day
          +ℤ pos (time_at (hour_of (time_part x)) (minute_of (time_part x)) (second_of (time_part x)) (nanosecond_of (time_part x)))) (sym year)
          ∙ ap (λ d. d *ℤ pos nanos_per_day
          +ℤ pos (time_at (hour_of (time_part x)) (minute_of (time_part x)) (second_of (time_part x)) (nanosecond_of (time_part x)))) has.number
          ∙ ap (λ t. k *ℤ pos nanos_per_day +ℤ pos t) (time_at-parts (time_part x)) ∙ parts-joined x,
    )

moment_shape : (c : ℕ) (x : ℤ) → moment_text c x
    ≡ (year_sign (year_of (day_part x)) ++ date_digits (day_part x)) ++ (c ∷ (clock_text (time_part x) ++ fraction_text (nanosecond_of (time_part x))))
unfolding moment_text
moment_shape c x = append_assoc (year_sign (year_of (day_part x)) ++ date_digits (day_part x)) _ _

pub local_back : (x : ℤ) → IsInYears x → pos 0 ≤ℤ year_of (day_part x) → SpellsLocal (moment_text 32 x) x
local_back x years from_zero =
    let exist = exist_back x years from_zero in
    rw (moment_shape 32 x) (subst (SpellsLocal _) exist.1
    (to_second 32 (date_back x years from_zero) refl (time_back (time_part x) (time_part-inside x)) exist.0))

-- instants

abbrev offset_parts : ℤ → WrittenOffset
offset_parts o = record { west = int_lt o (pos 0); hours = unsigned_abs o / 3600; minutes = unsigned_abs o / 60 % 60 }

offset_back : (o : ℤ) → unsigned_abs o % 60 ≡ 0 → unsigned_abs o < 86400 → SpellsOffset (offset_shown o) (offset_parts o)
unfolding offset_shown
offset_back o minutes hours = rw minutes (by_sign (int_lt o (pos 0)))
  where
    by_sign : (b : Bool) → SpellsOffset (((if b then 45 else 43) ∷ (two_digits (unsigned_abs o / 3600) ++ (58 ∷ two_digits (unsigned_abs o / 60 % 60)))) ++ [])
        (record { west = b; hours = unsigned_abs o / 3600; minutes = unsigned_abs o / 60 % 60 })
    by_sign true = west {h = unsigned_abs o / 3600} {m = unsigned_abs o / 60 % 60} (omega arith) (omega arith)
    by_sign false = east {h = unsigned_abs o / 3600} {m = unsigned_abs o / 60 % 60} (omega arith) (omega arith)

offset_value : (o : ℤ) → unsigned_abs o % 60 ≡ 0 → seconds_east (offset_parts o) ≡ o
unfolding seconds_east
offset_value o minutes =
    let e : (unsigned_abs o / 3600 * 60 + unsigned_abs o / 60 % 60) * 60 ≡ unsigned_abs o = omega (arith, minutes) in
    ap (signed_by (int_lt o (pos 0))) e ∙ signed_by-size o

pub rfc3339_back : (x o : ℤ) → IsInYears x → pos 0 ≤ℤ year_of (day_part x) → unsigned_abs o % 60 ≡ 0 → unsigned_abs o < 86400 → IsInYears (instant_at x o)
    → SpellsInstant (rfc3339_text x o) (instant_at x o)
unfolding rfc3339_text
rfc3339_back x o years from_zero minutes hours inside =
    let exist = exist_back x years from_zero in
    let value : instant_at (moment (date_parts (day_part x)) (time_parts (time_part x))) (seconds_east (offset_parts o)) ≡ instant_at x o =
    ap (λ l. instant_at l (seconds_east (offset_parts o))) exist.1 ∙ ap (instant_at x) (offset_value o minutes) in
    rw (moment_shape 84 x) (subst (SpellsInstant _) value
    (zoned 84 (date_back x years from_zero) refl (time_back (time_part x) (time_part-inside x)) exist.0 (offset_back o minutes hours)
    (subst IsInYears (sym value) inside)))

counted_value : (t : ℤ) → counted (int_lt t (pos 0)) (unsigned_abs t / 1000000000) (unsigned_abs t % 1000000000) ≡ t
unfolding counted
counted_value t =
    let e : unsigned_abs t / 1000000000 * 1000000000 + unsigned_abs t % 1000000000 ≡ unsigned_abs t = omega arith in
    ap (signed_by (int_lt t (pos 0))) e ∙ signed_by-size t

pub epoch_back : (t : ℤ) → IsInYears t → SpellsInstant (epoch_text t) t
unfolding epoch_text
epoch_back t years =
    let n = unsigned_abs t / 1000000000 in
    let f = unsigned_abs t % 1000000000 in
    subst (SpellsInstant _) (counted_value t) (by_sign (int_lt t (pos 0)) (subst IsInYears (sym (counted_value t)) years) (decimal_back n (omega (arith, years_near t years)))
    (fraction_back f (omega arith)))
  where
    by_sign : (b : Bool) → IsInYears (counted b (unsigned_abs t / 1000000000) (unsigned_abs t % 1000000000))
        → AreDigits (decimal (unsigned_abs t / 1000000000)) (unsigned_abs t / 1000000000)
        → SpellsFraction (fraction_text (unsigned_abs t % 1000000000)) (unsigned_abs t % 1000000000)
        → SpellsInstant (((64 ∷ (if b then 45 ∷ [] else [])) ++ decimal (unsigned_abs t / 1000000000)) ++ fraction_text (unsigned_abs t % 1000000000))
        (counted b (unsigned_abs t / 1000000000) (unsigned_abs t % 1000000000))
    by_sign true inside number fraction = before number fraction inside
    by_sign false inside number fraction = since number fraction inside
