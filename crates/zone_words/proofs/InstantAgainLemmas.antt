-- Instants that are spelled are read.
use Rattle.std.proofs.Common.{◌≡◌, refl, sym, ap, ◌∙◌, arith, ℕ, ◌+◌, ◌*◌, ◌/◌, ◌%◌, ◌^◌, ◌<◌, Bool, true, false, nat_eq, bytes_eq, min, List, [], ◌∷◌, ◌++◌, length, append_assoc, append-nil, Option, Some, None, Ok, ℤ, pos, neg_ℤ, codes}
use Rattle.std.proofs.{lemmas.Bool.{and_parts}, lemmas.Bool.Decides.{nat_tests}, Math.Nat.{min-eq_left}}
use Rattle.std.specs.{Char.{is_ascii_digit}, List.{list_all}}
use Rattle.basics.specs.{Marks.{after_mark}, SignedLaws.{signed}}
use Rattle.civil_base.specs.{Instants.{instant_at}, Layout.{two_digits}, Ranges.{IsInYears}, RangeLaws.{years_begin, years_end}}
use Rattle.zone_words.{proofs.AgainLemmas.{begins, goes_on, front_again, seconds_again, minute_again, moment_again, fraction_again, run_again, no_digit}, specs.{Numbers.{is_separator, moment, seconds_east, counted}, Pieces.{offset_at}, Readings.{zoned_at, zoned_in, size_at, count_at, count_in, count_of, counted_in, written_in, instant_in, asked_in, in_years, is_offset}, Spells.{SpellsDate, date, SpellsMinute, minute, SpellsFraction, whole, digits, time, Exist, SpellsOffset, utc, east, west, AreDigits, SpellsInstant, since, before, zoned, SpellsAsked, now, instant}, declared.form.{WrittenDate.{WrittenDate}, WrittenTime.{WrittenTime}, WrittenOffset.{WrittenOffset}}}}

offset_again : {z : List ℕ} {o : WrittenOffset} → SpellsOffset z o → (rest : List ℕ) → offset_at (z ++ rest) ≡ Some (o, rest)
unfolding offset_at
offset_again (utc is) rest = rw is refl
offset_again (east {h} {m} hours minutes) rest = rw (minute_again (minute {h = h} {m = m} (omega arith) (omega arith)) rest) refl
offset_again (west {h} {m} hours minutes) rest = rw (minute_again (minute {h = h} {m = m} (omega arith) (omega arith)) rest) refl

pub offset_stops : {z : List ℕ} {o : WrittenOffset} → SpellsOffset z o → (rest : List ℕ) → begins goes_on (z ++ rest) ≡ false
offset_stops (utc is) rest = grind (arith, nat_tests)
offset_stops (east hours minutes) rest = refl
offset_stops (west hours minutes) rest = refl

offset_real : {z : List ℕ} {o : WrittenOffset} → SpellsOffset z o → is_offset o ≡ true
offset_real (utc is) = refl
offset_real (east hours minutes) = grind (arith, nat_tests)
offset_real (west hours minutes) = grind (arith, nat_tests)

pub within : (t : ℤ) → IsInYears t → in_years t ≡ Ok t
unfolding in_years
within t inside = rw inside refl

pub zoned_form_again : {a m f z : List ℕ} {s n : ℕ} {d : WrittenDate} {t : WrittenTime} {o : WrittenOffset} (c : ℕ) → SpellsDate a d → is_separator c ≡ true
    → SpellsMinute m t → s < 100 → SpellsFraction f n → SpellsOffset z o → (rest : List ℕ)
    → zoned_at (a ++ (c ∷ (m ++ (58 ∷ (two_digits s ++ (f ++ (z ++ rest)))))))
    ≡ Ok (record { date = d; time = record { hour = t.hour; minute = t.minute; second = s; nanosecond = n }; offset = o }, rest)
unfolding zoned_at
zoned_form_again {f = f} {z} {s} {t = t} c dated mark timed small fraction offset rest =
    rw (
      front_again c dated mark timed (58 ∷ (two_digits s ++ (f ++ (z ++ rest)))),
      seconds_again t small fraction (z ++ rest) (offset_stops offset rest),
      offset_again offset rest,
    ) refl

pub zoned_value : {a z : List ℕ} {d : WrittenDate} {t : WrittenTime} {o : WrittenOffset} → SpellsDate a d → Exist d t → SpellsOffset z o
    → IsInYears (instant_at (moment d t) (seconds_east o))
    → zoned_in (record { date = d; time = t; offset = o }) ≡ Ok (instant_at (moment d t) (seconds_east o))
unfolding zoned_in
zoned_value {t = t} dated exist offset inside = rw (moment_again t dated exist, offset_real offset, within _ inside) refl

-- the parts of a text of RFC 3339, with what follows it
pub laid_out : (a m f z rest : List ℕ) (c s : ℕ) → (a ++ (c ∷ ((m ++ (58 ∷ two_digits s)) ++ f)) ++ z) ++ rest
    ≡ a ++ (c ∷ (m ++ (58 ∷ (two_digits s ++ (f ++ (z ++ rest))))))
laid_out a m f z rest c s = simp append_assoc

-- a date begins with a digit
pub no_at : {a : List ℕ} {d : WrittenDate} → SpellsDate a d → (rest : List ℕ) → after_mark 64 (a ++ rest) ≡ None
no_at (date {y} {m} {d} years months days) rest =
    let other : nat_eq (48 + y / 1000 % 10) 64 ≡ false = grind (arith, nat_tests) in
    rw other refl

no_minus : (a rest : List ℕ) → 0 < length a → list_all is_ascii_digit a ≡ true → after_mark 45 (a ++ rest) ≡ None
no_minus [] rest some passes = absurd (omega arith)
no_minus (c ∷ a) rest some passes =
    let first = (and_parts (is_ascii_digit c) _ passes).0 in
    let other : nat_eq c 45 ≡ false = grind (arith, nat_tests) in
    rw other refl

fraction_stops : {b : List ℕ} {f : ℕ} → SpellsFraction b f → (rest : List ℕ) → begins is_ascii_digit rest ≡ false → begins is_ascii_digit (b ++ rest) ≡ false
fraction_stops whole rest stops = stops
fraction_stops (digits are) rest stops = refl

pub few : (back : Bool) (n f : ℕ) → IsInYears (counted back n f) → n < 10 ^ 25
unfolding counted
few true n f inside = omega (arith, signed, years_begin (neg_ℤ (pos (n * 1000000000 + f))) inside)
few false n f inside = omega (arith, signed, years_end (pos (n * 1000000000 + f)) inside)

size_again : {a b : List ℕ} {n f : ℕ} (back : Bool) → AreDigits a n → SpellsFraction b f → n < 10 ^ 25 → (rest : List ℕ) → begins goes_on rest ≡ false
    → size_at back (a ++ (b ++ rest)) ≡ Ok (record { before = back; seconds = n; nanosecond = f }, rest)
unfolding size_at
size_again {a} {b} {n} back are fraction bound rest stops =
    let run = run_again a (b ++ rest) are.digits (fraction_stops fraction rest (no_digit rest stops)) in
    let some : nat_eq (length a) 0 ≡ false = grind (arith, nat_tests, are.some) in
    let count : count_of a ≡ n = ap (λ k. min k (10 ^ 25)) are.value ∙ min-eq_left (omega arith) in
    rw (run.0, run.1, some, fraction_again fraction rest stops, count) refl

pub count_again : {a b : List ℕ} {n f : ℕ} → AreDigits a n → SpellsFraction b f → n < 10 ^ 25 → (rest : List ℕ) → begins goes_on rest ≡ false
    → count_at (a ++ (b ++ rest)) ≡ Ok (record { before = false; seconds = n; nanosecond = f }, rest)
unfolding count_at
count_again {a} {b} are fraction bound rest stops =
    rw (no_minus a (b ++ rest) are.some are.digits, size_again false are fraction bound rest stops) refl

pub before_again : {a b : List ℕ} {n f : ℕ} → AreDigits a n → SpellsFraction b f → n < 10 ^ 25 → (rest : List ℕ) → begins goes_on rest ≡ false
    → count_at (45 ∷ (a ++ (b ++ rest))) ≡ Ok (record { before = true; seconds = n; nanosecond = f }, rest)
unfolding count_at
before_again are fraction bound rest stops = size_again true are fraction bound rest stops

pub instant_again : {text : List ℕ} {t : ℤ} → SpellsInstant text t → instant_in text ≡ Ok t
unfolding instant_in counted_in count_at count_in written_in
instant_again (since {a} {b} {n} {f} are fraction inside) =
    let bound = few false n f inside in
    rw (
      ← append-nil b,
      no_minus a (b ++ []) are.some are.digits,
      size_again false are fraction bound [] refl,
      within _ inside,
    ) refl
instant_again (before {a} {b} {n} {f} are fraction inside) =
    let bound = few true n f inside in
    rw (← append-nil b, size_again true are fraction bound [] refl, within _ inside) refl
instant_again (zoned {a} {z = z} c dated mark (time {a = m} {b = f} {s = s} timed small fraction) exist offset inside) =
    let e = sym (append-nil _) ∙ laid_out a m f z [] c s in
    rw (
      e,
      no_at dated (c ∷ (m ++ (58 ∷ (two_digits s ++ (f ++ (z ++ [])))))),
      zoned_form_again c dated mark timed small fraction offset [],
      zoned_value dated exist offset inside,
    ) refl

-- no instant is spelled `now`
pub asked_again : {text : List ℕ} {t : Option ℤ} → SpellsAsked text t → asked_in text ≡ Ok t
unfolding asked_in
asked_again now = refl
asked_again (instant {a} spelled) = rw (not_now spelled, instant_again spelled) refl
  where
    not_now : {text : List ℕ} {t : ℤ} → SpellsInstant text t → bytes_eq text (codes "now") ≡ false
    not_now (since are fraction inside) = refl
    not_now (before are fraction inside) = refl
    not_now (zoned c (date {y} years months days) mark timed exist offset inside) =
        let other : nat_eq (48 + y / 1000 % 10) 110 ≡ false = grind (arith, nat_tests) in
        rw other refl
