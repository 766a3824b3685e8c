-- Texts tell values apart.
use Rattle.std.proofs.{Common.{◌≡◌, refl, arith, ap, sym, ◌∙◌, ℕ, ℤ, pos, ◌<◌, ◌/◌, ◌%◌, ◌+ℤ◌, ◌*ℤ◌, ◌≢◌, nat_eq, int_lt, ◌∷◌, ◌++◌, length, take, drop, get_or, unsigned_abs, length-append}, lemmas.List.{take_at, drop_at}, lemmas.Int.{by_lt_z}}
use Rattle.basics.specs.{Days.{day}, Dates.{year_of, month_of, day_of}, SignedLaws.{signed, one_sided}, MonthLaws.{days_in_month-bounds}}
use Rattle.civil_base.specs.{Clock.{nanos_per_day, hour_of, minute_of, second_of, nanosecond_of, time_at}, Layout.{two_digits, four_digits, nine_digits, year_sign, date_digits, time_text, day_part, time_part, local_text, offset_text, zoned_text}}
use Rattle.civil_base.specs.{Ranges.{IsDay, IsInYears, IsOffset}, Instants.{local_at}, RangeLaws.{offset_size}, ClockLaws.{clock_parts, time_at-parts}, DayLaws.{date_of-day}, DigitLaws.{four_digits-halves, nine_digits-parts}}
use Rattle.civil_base.specs.{LayoutLaws.{unsigned_text, local_text-sign, unsigned_text-shape, year_sign-negative, year_sign-other, offset_text-length}, Offsets.{signed_by}, OffsetLaws.{signed_by-size, minus_is}}
use Rattle.civil_base.specs.PartLaws.{day_part-inside, time_part-inside, parts-joined}

two_digits-same : (m n : ℕ) → m < 100 → n < 100 → two_digits m ≡ two_digits n → m ≡ n
two_digits-same m n h k e =
    let tens = ap (λ l. get_or l 0 0) e in
    let ones = ap (λ l. get_or l 1 0) e in
    omega arith

four_digits-same : (m n : ℕ) → m < 10000 → n < 10000 → four_digits m ≡ four_digits n → m ≡ n
four_digits-same m n h k e =
    let halves = sym (four_digits-halves m) ∙ e ∙ four_digits-halves n in
    let front = two_digits-same (m / 100) (n / 100) (omega arith) (omega arith) (ap (take 2) halves) in
    let back = two_digits-same (m % 100) (n % 100) (omega arith) (omega arith) (ap (drop 2) halves) in
    omega arith

nine_digits-same : (m n : ℕ) → m < 1000000000 → n < 1000000000 → nine_digits m ≡ nine_digits n → m ≡ n
nine_digits-same m n h k e =
    let parts = sym (nine_digits-parts m) ∙ e ∙ nine_digits-parts n in
    let front = four_digits-same (m / 100000) (n / 100000) (omega arith) (omega arith) (ap (take 4) parts) in
    let middle = four_digits-same (m / 10 % 10000) (n / 10 % 10000) (omega arith) (omega arith) (ap (λ l. take 4 (drop 4 l)) parts) in
    let last = ap (λ l. get_or l 8 0) parts in
    omega arith

time_text-same : (t u : ℕ) → t < nanos_per_day → u < nanos_per_day → time_text t ≡ time_text u → t ≡ u
unfolding time_text
time_text-same t u h k e =
    let a = clock_parts t h in
    let b = clock_parts u k in
    let hours = two_digits-same (hour_of t) (hour_of u) (omega arith) (omega arith) (ap (take 2) e) in
    let minutes = two_digits-same (minute_of t) (minute_of u) (omega arith) (omega arith) (ap (λ l. take 2 (drop 3 l)) e) in
    let seconds = two_digits-same (second_of t) (second_of u) (omega arith) (omega arith) (ap (λ l. take 2 (drop 6 l)) e) in
    let nanos = nine_digits-same (nanosecond_of t) (nanosecond_of u) (omega arith) (omega arith) (ap (drop 9) e) in
    sym (time_at-parts t) ∙ ap (λ x. time_at x (minute_of t) (second_of t) (nanosecond_of t)) hours
    ∙ ap (λ x. time_at (hour_of u) x (second_of t) (nanosecond_of t)) minutes
    ∙ ap (λ x. time_at (hour_of u) (minute_of u) x (nanosecond_of t)) seconds
    ∙ ap (time_at (hour_of u) (minute_of u) (second_of u)) nanos ∙ time_at-parts u

-- the sign and the size of a year give the year
same_year : (y z : ℤ) → year_sign y ≡ year_sign z → unsigned_abs y ≡ unsigned_abs z → y ≡ z
same_year y z sign size =
    by_lt_z y (pos 0)
    (λ below. by_lt_z z (pos 0)
    (λ low. omega (arith, signed, one_sided y, one_sided z))
    (λ high. absurd (omega (arith, ap length (sym (year_sign-negative y below) ∙ sign ∙ year_sign-other z high)))))
    (λ above. by_lt_z z (pos 0)
    (λ low. absurd (omega (arith, ap length (sym (year_sign-other y above) ∙ sign ∙ year_sign-negative z low))))
    (λ high. omega (arith, signed, one_sided y, one_sided z)))

-- days whose years have one sign
date_digits-same : (k l : ℤ) → IsDay k → IsDay l → year_sign (year_of k) ≡ year_sign (year_of l) → date_digits k ≡ date_digits l → k ≡ l
unfolding date_digits
date_digits-same k l h i sign e =
    let a = date_of-day k h in
    let b = date_of-day l i in
    let size = four_digits-same (unsigned_abs (year_of k)) (unsigned_abs (year_of l)) (omega (arith, signed, one_sided (year_of k)))
    (omega (arith, signed, one_sided (year_of l))) (ap (take 4) e) in
    let month = two_digits-same (month_of k) (month_of l) (omega arith) (omega arith) (ap (λ l. take 2 (drop 5 l)) e) in
    let date = two_digits-same (day_of k) (day_of l) (omega (arith, days_in_month-bounds (year_of k) (month_of k))) (omega (
      arith,
      days_in_month-bounds (year_of l) (month_of l),
    )) (ap (drop 8) e) in
    let year : year_of k ≡ year_of l = same_year (year_of k) (year_of l) sign size in
    sym a.number ∙ ap (λ y. day y (month_of k) (day_of k)) year ∙ ap (λ m. day (year_of l) m (day_of k)) month
    ∙ ap (day (year_of l) (month_of l)) date ∙ b.number

unsigned_text-first : (x : ℤ) → get_or (unsigned_text x) 0 0 ≢ 45
unsigned_text-first x = (unsigned_text-shape x).3

-- the sign of the year in a local text, and what follows it
signs_agree : (x z : ℤ) → local_text x ≡ local_text z → (year_sign (year_of (day_part x)) ≡ year_sign (year_of (day_part z))) ×
    (unsigned_text x ≡ unsigned_text z)
signs_agree x z e =
    let y = year_of (day_part x) in
    let w = year_of (day_part z) in
    let pieces = sym (local_text-sign x) ∙ e ∙ local_text-sign z in
    by_lt_z y (pos 0)
    (λ below. by_lt_z w (pos 0)
    (λ low.
    let text = sym (ap (λ s. s ++ unsigned_text x) (year_sign-negative y below)) ∙ pieces
    ∙ ap (λ s. s ++ unsigned_text z) (year_sign-negative w low) in
    (year_sign-negative y below ∙ sym (year_sign-negative w low), ap (drop 1) text))
    (λ high.
    let text = sym (ap (λ s. s ++ unsigned_text x) (year_sign-negative y below)) ∙ pieces
    ∙ ap (λ s. s ++ unsigned_text z) (year_sign-other w high) in
    absurd (unsigned_text-first z (sym (ap (λ l. get_or l 0 0) text)))))
    (λ above. by_lt_z w (pos 0)
    (λ low.
    let text = sym (ap (λ s. s ++ unsigned_text x) (year_sign-other y above)) ∙ pieces
    ∙ ap (λ s. s ++ unsigned_text z) (year_sign-negative w low) in
    absurd (unsigned_text-first x (ap (λ l. get_or l 0 0) text)))
    (λ high.
    let text = sym (ap (λ s. s ++ unsigned_text x) (year_sign-other y above)) ∙ pieces
    ∙ ap (λ s. s ++ unsigned_text z) (year_sign-other w high) in
    (year_sign-other y above ∙ sym (year_sign-other w high), text)))

pub local_text-same : (x z : ℤ) → IsInYears x → IsInYears z → local_text x ≡ local_text z → x ≡ z
local_text-same x z h i e =
    let both = signs_agree x z e in
    let a = unsigned_text-shape x in
    let b = unsigned_text-shape z in
    let date = date_digits-same (day_part x) (day_part z) (day_part-inside x h) (day_part-inside z i) both.0 (sym a.1
    ∙ ap (take 10) both.1 ∙ b.1) in
    let time = time_text-same (time_part x) (time_part z) (time_part-inside x) (time_part-inside z) (ap (drop 1) (sym a.2
    ∙ ap (drop 10) both.1 ∙ b.2)) in
    sym (parts-joined x) ∙ ap (λ k. k *ℤ pos nanos_per_day +ℤ pos (time_part x)) date
    ∙ ap (λ t. day_part z *ℤ pos nanos_per_day +ℤ pos t) time ∙ parts-joined z

offset_text-same : (o p : ℤ) → IsOffset o → IsOffset p → offset_text o ≡ offset_text p → o ≡ p
unfolding offset_text
offset_text-same o p h i e =
    let m = unsigned_abs o in
    let n = unsigned_abs p in
    let small = offset_size o h in
    let little = offset_size p i in
    let hours = two_digits-same (m / 3600) (n / 3600) (omega arith) (omega arith) (ap (λ l. take 2 (drop 1 l)) e) in
    let minutes = two_digits-same (m / 60 % 60) (n / 60 % 60) (omega arith) (omega arith) (ap (λ l. take 2 (drop 4 l)) e) in
    let seconds = two_digits-same (m % 60) (n % 60) (omega arith) (omega arith) (ap (drop 7) e) in
    let size : m ≡ n = omega arith in
    let sign = sym (minus_is (int_lt o (pos 0))) ∙ ap (λ l. nat_eq (get_or l 0 0) 45) e ∙ minus_is (int_lt p (pos 0)) in
    sym (signed_by-size o) ∙ ap (λ t. signed_by t m) sign ∙ ap (signed_by (int_lt p (pos 0))) size ∙ signed_by-size p

-- two zoned texts are equal only where the instants and the offsets are
pub zoned_text-same : (t o u p : ℤ) → IsInYears (local_at t o) → IsOffset o → IsInYears (local_at u p) → IsOffset p
    → zoned_text t o ≡ zoned_text u p → (t ≡ u) × (o ≡ p)
unfolding zoned_text
zoned_text-same t o u p h i j k e =
    let x = local_at t o in
    let z = local_at u p in
    let long = ap length e in
    let first = length-append (local_text x) (32 ∷ offset_text o) in
    let second = length-append (local_text z) (32 ∷ offset_text p) in
    let cut : length (local_text x) ≡ length (local_text z) = omega (arith, offset_text-length o, offset_text-length p) in
    let n = length (local_text z) in
    let local = sym (take_at (local_text x) (32 ∷ offset_text o) n cut) ∙ ap (take n) e
    ∙ take_at (local_text z) (32 ∷ offset_text p) n refl in
    let offset = sym (drop_at (local_text x) (32 ∷ offset_text o) n cut) ∙ ap (drop n) e
    ∙ drop_at (local_text z) (32 ∷ offset_text p) n refl in
    let same = offset_text-same o p i k (ap (drop 1) offset) in
    let moved = local_text-same x z h j local in
    (omega (arith, signed, moved, same), same)
