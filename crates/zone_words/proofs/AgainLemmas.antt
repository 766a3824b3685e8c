-- What is spelled is read, whatever follows.
use Rattle.std.proofs.{Common.{◌≡◌, refl, ap, ◌∙◌, arith, ℕ, ◌+◌, ◌-◌, ◌*◌, ◌/◌, ◌%◌, ◌<◌, ◌||◌, Bool, true, false, nat_eq, nat_lt}, Common.{List, [], ◌∷◌, ◌++◌, length, append_assoc, append-nil, Some, Ok, ℤ}, lemmas.Bool.{and_parts}}
use Rattle.std.proofs.lemmas.{Bool.Decides.{nat_tests}, List.{take_at, drop_at}}
use Rattle.std.specs.{Char.{is_ascii_digit}, List.{prefix_len, list_all}}
use Rattle.civil_base.specs.{Layout.{two_digits, four_digits}, DigitLaws.{four_digits-halves}}
use Rattle.zone_words.specs.{Numbers.{is_separator, fraction_of, moment}, Pieces.{digit_at, two_at, four_at, date_at, minute_at, second_at, run_of, after_run}, Readings.{digits_at, fraction_at, front_at, seconds_at, moment_in, local_in, is_date, is_time}, Spells.{SpellsDate, date, SpellsMinute, minute, AreFraction, SpellsFraction, whole, digits, time, Exist, SpellsLocal, to_minute, to_second}, declared.form.WrittenDate.{WrittenDate}, declared.form.WrittenTime.{WrittenTime}}

pub digit_again : (n : ℕ) → n < 10 → (rest : List ℕ) → digit_at ((48 + n) ∷ rest) ≡ Some (n, rest)
unfolding digit_at
digit_again n small rest =
    let is : is_ascii_digit (48 + n) ≡ true = grind (arith, nat_tests) in
    let back : 48 + n - 48 ≡ n = omega arith in
    rw (is, back) refl

pub two_again : (n : ℕ) → n < 100 → (rest : List ℕ) → two_at (two_digits n ++ rest) ≡ Some (n, rest)
unfolding two_at
two_again n small rest =
    let joined : 10 * (n / 10 % 10) + n / 1 % 10 ≡ n = omega arith in
    rw (digit_again (n / 10 % 10) (omega arith) ((48 + n / 1 % 10) ∷ rest), digit_again (n / 1 % 10) (omega arith) rest, joined) refl

four_halves : (n : ℕ) → n < 10000 → (rest : List ℕ) → four_at (two_digits (n / 100) ++ (two_digits (n % 100) ++ rest)) ≡ Some (n, rest)
unfolding four_at
four_halves n small rest =
    let joined : 100 * (n / 100) + n % 100 ≡ n = omega arith in
    rw (two_again (n / 100) (omega arith) (two_digits (n % 100) ++ rest), two_again (n % 100) (omega arith) rest, joined) refl

pub four_again : (n : ℕ) → n < 10000 → (rest : List ℕ) → four_at (four_digits n ++ rest) ≡ Some (n, rest)
four_again n small rest = ap (λ l. four_at (l ++ rest)) (four_digits-halves n) ∙ four_halves n small rest

pub date_again : {a : List ℕ} {d : WrittenDate} → SpellsDate a d → (rest : List ℕ) → date_at (a ++ rest) ≡ Some (d, rest)
unfolding date_at
date_again (date {y} {m} {d} years months days) rest =
    rw (
      four_again y years (45 ∷ (two_digits m ++ (45 ∷ (two_digits d ++ rest)))),
      two_again m months (45 ∷ (two_digits d ++ rest)),
      two_again d days rest,
    ) refl

pub minute_again : {a : List ℕ} {t : WrittenTime} → SpellsMinute a t → (rest : List ℕ) → minute_at (a ++ rest) ≡ Some ((t.hour, t.minute), rest)
unfolding minute_at
minute_again (minute {h} {m} hours minutes) rest =
    rw (two_again h hours (58 ∷ (two_digits m ++ rest)), two_again m minutes rest) refl

pub front_again : {a b : List ℕ} {d : WrittenDate} {t : WrittenTime} (c : ℕ) → SpellsDate a d → is_separator c ≡ true → SpellsMinute b t
    → (rest : List ℕ) → front_at (a ++ (c ∷ (b ++ rest))) ≡ Ok ((d, t), rest)
unfolding front_at
front_again {b = b} c dated mark (minute {h} {m} hours minutes) rest =
    rw (date_again dated (c ∷ (b ++ rest)), mark, minute_again (minute hours minutes) rest) refl

-- whether the first byte of a text passes
abbrev pub begins : (ℕ → Bool) → List ℕ → Bool
begins p [] = false
begins p (c ∷ rest) = p c

-- a byte that could go on with a second
abbrev pub goes_on : ℕ → Bool
goes_on c = is_ascii_digit c || nat_eq c 46

run_len : (xs rest : List ℕ) → list_all is_ascii_digit xs ≡ true → begins is_ascii_digit rest ≡ false
    → prefix_len is_ascii_digit (xs ++ rest) ≡ length xs
run_len [] [] passes stops = refl
run_len [] (c ∷ rest) passes stops = rw stops refl
run_len (x ∷ xs) rest passes stops =
    let both = and_parts (is_ascii_digit x) _ passes in
    let more = run_len xs rest both.1 stops in
    rw both.0 (omega arith)

-- digits are the longest run where what follows is none
pub run_again : (xs rest : List ℕ) → list_all is_ascii_digit xs ≡ true → begins is_ascii_digit rest ≡ false
    → (run_of (xs ++ rest) ≡ xs) × (after_run (xs ++ rest) ≡ rest)
run_again xs rest passes stops =
    let long = run_len xs rest passes stops in
    (rw long (take_at xs rest (length xs) refl), rw long (drop_at xs rest (length xs) refl))

pub no_digit : (rest : List ℕ) → begins goes_on rest ≡ false → begins is_ascii_digit rest ≡ false
no_digit [] stops = refl
no_digit (c ∷ rest) stops = grind (arith, nat_tests)

pub digits_again : {a : List ℕ} → AreFraction a → (rest : List ℕ) → begins is_ascii_digit rest ≡ false
    → digits_at (a ++ rest) ≡ Ok (fraction_of a, rest)
unfolding digits_at
digits_again {a} are rest stops =
    let run = run_again a rest are.digits stops in
    let some : nat_eq (length a) 0 ≡ false = grind (arith, nat_tests, are.some) in
    let most : nat_lt 9 (length a) ≡ false = grind (arith, nat_tests, are.most) in
    rw (run.0, run.1, some, most) refl

no_point : (rest : List ℕ) → begins goes_on rest ≡ false → fraction_at rest ≡ Ok (0, rest)
unfolding fraction_at
no_point [] stops = refl
no_point (c ∷ rest) stops =
    let other : nat_eq c 46 ≡ false = grind (arith, nat_tests) in
    rw other refl

pub fraction_again : {a : List ℕ} {n : ℕ} → SpellsFraction a n → (rest : List ℕ) → begins goes_on rest ≡ false → fraction_at (a ++ rest) ≡ Ok (n, rest)
unfolding fraction_at
fraction_again whole rest stops = no_point rest stops
fraction_again (digits are) rest stops = digits_again are rest (no_digit rest stops)

pub seconds_again : {b : List ℕ} {s n : ℕ} (t : WrittenTime) → s < 100 → SpellsFraction b n → (rest : List ℕ) → begins goes_on rest ≡ false
    → seconds_at t (58 ∷ (two_digits s ++ (b ++ rest)))
    ≡ Ok (record { hour = t.hour; minute = t.minute; second = s; nanosecond = n }, rest)
unfolding seconds_at second_at
seconds_again {b} {s} t small fraction rest stops =
    rw (two_again s small (b ++ rest), fraction_again fraction rest stops) refl

pub moment_again : {a : List ℕ} {d : WrittenDate} (t : WrittenTime) → SpellsDate a d → Exist d t → moment_in d t ≡ Ok (moment d t)
unfolding moment_in
moment_again t (date {y} {m} {d} years months days) exist =
    let e = exist.date in
    let c = exist.time in
    let real : is_date (record { year = y; month = m; day = d }) ≡ true = grind (arith, nat_tests) in
    let shown : is_time t ≡ true = grind (arith, nat_tests) in
    rw (real, shown) refl

pub local_again : {text : List ℕ} {x : ℤ} → SpellsLocal text x → local_in text ≡ Ok x
unfolding local_in
local_again (to_minute {b = b} {d} {t} c dated mark timed exist) =
    rw (← append-nil b, front_again c dated mark timed [], moment_again t dated exist) refl
local_again (to_second {a} {d = d} c dated mark (time {a = m} {b = f} {t} {s} {n} timed small fraction) exist) =
    let e : m ++ (58 ∷ two_digits s) ++ f ≡ m ++ (58 ∷ (two_digits s ++ (f ++ []))) = rw append-nil (append_assoc m _ f) in
    rw (e, front_again c dated mark timed (58 ∷ (two_digits s ++ (f ++ []))), seconds_again t small fraction [] refl, moment_again _ dated exist) refl
