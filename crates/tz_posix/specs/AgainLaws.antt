-- What is spelled is read, whatever follows.
use Rattle.std.proofs.{Common.{◌≡◌, ℕ, ◌<◌, ◌^◌, Bool, true, false, List, [], ◌∷◌, ◌++◌, length, Option, Some, None, refl, arith, nat_eq, nat_le, take_while, lt-ltb, append_assoc, append-nil}, lemmas.Bool.{and_parts}, lemmas.Bool.Decides.{nat_tests}}
use Rattle.std.proofs.lemmas.List.{take_at, drop_at}
use Rattle.std.specs.{Char.{is_ascii_digit, is_ascii_alphabetic}, List.{prefix_len, list_all}, Str.Parse.{digits_value}}
use Rattle.basics.specs.{Marks.{after_mark}, Numbers.{value_in}}
use Rattle.tz_posix.specs.Marks.{colon, plus_sign, comma, minus_sign, dot, slash, less, greater, letter_J, letter_M}
use Rattle.tz_posix.specs.Reading.{after_run, number_at, part_at, clock_time_at, offset_at, sign_at, letters_at, enclosed_at, name_at, weekday_at, date_at, moment_at, rule_in, is_over, own_offset_at, own_rule_in, dst_in, short_in, expanded_in, entry_in, AreRead}
use Rattle.tz_posix.specs.Spells.{Optional, absent, present, SpellsNumber, SpellsTime, hours, minutes, seconds, SpellsOffset, bare, plus, minus, is_enclosed, SpellsName, enclosed, letters, SpellsDate, julian, counted, weekday, SpellsMoment, date, timed, SpellsRule, rule, SpellsDst, dst, SpellsIn, short_form, full_form, begins, goes_on, RunsAreLongest, TimeRange}
use Rattle.tz_posix.specs.{Values.{DstPart, Value}, declared.time.Time.{Time}, declared.time.Offset.{Offset}, declared.date.Date.{Date}, declared.date.Date.TheVariants.{M}, declared.values.Rule.{Rule}}

pub stop_digit : (rest : List ℕ) → begins goes_on rest ≡ false → begins is_ascii_digit rest ≡ false
stop_digit [] e = refl
stop_digit (c ∷ rest) e = grind (arith, nat_tests)

run_len : (p : ℕ → Bool) (xs rest : List ℕ) → list_all p xs ≡ true → begins p rest ≡ false → prefix_len p (xs ++ rest) ≡ length xs
run_len p [] [] passes stops = refl
run_len p [] (c ∷ rest) passes stops = rw stops refl
run_len p (x ∷ xs) rest passes stops =
    let both = and_parts (p x) _ passes in
    let more = run_len p xs rest both.1 stops in
    rw both.0 (omega arith)

-- a run is the longest one where what follows doesn't go on with it
pub run_again : (p : ℕ → Bool) (xs rest : List ℕ) → list_all p xs ≡ true → begins p rest ≡ false
    → (take_while p (xs ++ rest) ≡ xs) × (after_run p (xs ++ rest) ≡ rest)
run_again p xs rest passes stops =
    let long = run_len p xs rest passes stops in
    (rw long (take_at xs rest (length xs) refl), rw long (drop_at xs rest (length xs) refl))

number_again : {bits : ℕ} {a : List ℕ} {n : ℕ} → SpellsNumber bits a n → (rest : List ℕ) → begins is_ascii_digit rest ≡ false
    → number_at bits (a ++ rest) ≡ Some (n, rest)
unfolding number_at value_in
number_again {bits} {a} {n} is rest stops =
    let run = run_again is_ascii_digit a rest is.digits stops in
    let fits : digits_value 10 a < 2 ^ bits = rw is.value is.fits in
    rw (run.0, run.1, lt-ltb _ _ is.some, lt-ltb _ _ fits, is.value) refl

-- no mark stands where another byte does, or none
pub no_mark : (mark : ℕ) (rest : List ℕ) → begins (λ c. nat_eq c mark) rest ≡ false → after_mark mark rest ≡ None
no_mark mark [] stops = refl
no_mark mark (c ∷ rest) stops = rw stops refl

stop_colon : (rest : List ℕ) → begins goes_on rest ≡ false → begins (λ c. nat_eq c colon) rest ≡ false
stop_colon [] e = refl
stop_colon (c ∷ rest) e = grind (arith, nat_tests)

pub stop_slash : (rest : List ℕ) → begins goes_on rest ≡ false → begins (λ c. nat_eq c slash) rest ≡ false
stop_slash [] e = refl
stop_slash (c ∷ rest) e = grind (arith, nat_tests)

part_none : (rest : List ℕ) → begins goes_on rest ≡ false → part_at rest ≡ Some (None, rest)
unfolding part_at
part_none rest stops = rw (no_mark colon rest (stop_colon rest stops)) refl

part_again : {b : List ℕ} {m : ℕ} → SpellsNumber 8 b m → (rest : List ℕ) → begins is_ascii_digit rest ≡ false
    → part_at (colon ∷ b ++ rest) ≡ Some (Some m, rest)
unfolding part_at
part_again m rest stops = rw (number_again m rest stops) refl

pub time_again : {a : List ℕ} {t : Time} → SpellsTime a t → (rest : List ℕ) → begins goes_on rest ≡ false → clock_time_at (a ++ rest) ≡ Some (t, rest)
unfolding clock_time_at
time_again (hours h) rest stops =
    rw (number_again h rest (stop_digit rest stops), part_none rest stops) refl
time_again (minutes {a} {b} h m) rest stops =
    rw (append_assoc, number_again h (colon ∷ (b ++ rest)) refl, part_again m rest (stop_digit rest stops), part_none rest stops) refl
time_again (seconds {a} {b} {c} h m s) rest stops =
    rw (
      append_assoc,
      append_assoc,
      number_again h (colon ∷ (b ++ (colon ∷ (c ++ rest)))) refl,
      part_again m (colon ∷ (c ++ rest)) refl,
      part_again s rest (stop_digit rest stops),
    ) refl

-- what a test of a text says where a run stands at its front
run_first : {B : Type 0} (q : ℕ → Bool) (test : List ℕ → B) (answer : B) → ((c : ℕ) (cs : List ℕ) → q c ≡ true → test (c ∷ cs) ≡ answer)
    → (xs rest : List ℕ) → 0 < length xs → list_all q xs ≡ true → test (xs ++ rest) ≡ answer
run_first q test answer tells [] rest some passes = absurd (omega arith)
run_first q test answer tells (c ∷ xs) rest some passes = tells c (xs ++ rest) (and_parts (q c) _ passes).0

module _ {B : Type 0} (test : List ℕ → B) (answer : B) (at_digit : (c : ℕ) (cs : List ℕ) → is_ascii_digit c ≡ true
    → test (c ∷ cs) ≡ answer) where
  number_first : {bits : ℕ} {a : List ℕ} {n : ℕ} → SpellsNumber bits a n → (rest : List ℕ) → test (a ++ rest) ≡ answer
  number_first {bits} {a} {n} is rest = run_first is_ascii_digit test answer at_digit a rest is.some is.digits

  time_first : {a : List ℕ} {t : Time} → SpellsTime a t → (rest : List ℕ) → test (a ++ rest) ≡ answer
  time_first (hours h) rest = number_first h rest
  time_first (minutes {a} {b} h m) rest = rw append_assoc (number_first h (colon ∷ (b ++ rest)))
  time_first (seconds {a} {b} {c} h m s) rest = rw (append_assoc, append_assoc) (number_first h (colon ∷ (b ++ (colon ∷ (c ++ rest)))))

  pub offset_first : ((cs : List ℕ) → test (plus_sign ∷ cs) ≡ answer) → ((cs : List ℕ) → test (minus_sign ∷ cs) ≡ answer)
      → {a : List ℕ} {o : Offset} → SpellsOffset a o → (rest : List ℕ) → test (a ++ rest) ≡ answer
  offset_first at_plus at_minus (bare t) rest = time_first t rest
  offset_first at_plus at_minus (plus {a} t) rest = at_plus (a ++ rest)
  offset_first at_plus at_minus (minus {a} t) rest = at_minus (a ++ rest)

module _ {B : Type 0} (test : List ℕ → B) (answer : B) (at_letter : (c : ℕ) (cs : List ℕ) → is_ascii_alphabetic c ≡ true
    → test (c ∷ cs) ≡ answer) (at_bracket : (cs : List ℕ) → test (less ∷ cs) ≡ answer) where
  pub name_first : {a name : List ℕ} → SpellsName a name → (rest : List ℕ) → test (a ++ rest) ≡ answer
  name_first (enclosed {name} some inside) rest = at_bracket (name ++ greater ∷ [] ++ rest)
  name_first (letters {name} three sixteen passes) rest = run_first is_ascii_alphabetic test answer at_letter name rest (omega arith) passes

pub no_digit_is : (mark : ℕ) → is_ascii_digit mark ≡ false → (c : ℕ) (cs : List ℕ) → is_ascii_digit c ≡ true → after_mark mark (c ∷ cs) ≡ None
no_digit_is mark other c cs digit =
    let differs : nat_eq c mark ≡ false = grind (arith, nat_tests) in
    rw differs refl

pub no_letter_is : (mark : ℕ) → is_ascii_alphabetic mark ≡ false → (c : ℕ) (cs : List ℕ) → is_ascii_alphabetic c ≡ true
    → after_mark mark (c ∷ cs) ≡ None
no_letter_is mark other c cs letter =
    let differs : nat_eq c mark ≡ false = grind (arith, nat_tests) in
    rw differs refl

pub offset_again : {a : List ℕ} {o : Offset} → SpellsOffset a o → (rest : List ℕ) → begins goes_on rest ≡ false
    → offset_at (a ++ rest) ≡ Some (o, rest)
unfolding offset_at sign_at
offset_again (bare {a} t) rest stops =
    rw (
      time_first (after_mark minus_sign) None (no_digit_is minus_sign refl) t rest,
      time_first (after_mark plus_sign) None (no_digit_is plus_sign refl) t rest,
      time_again t rest stops,
    ) refl
offset_again (plus t) rest stops = rw (time_again t rest stops) refl
offset_again (minus t) rest stops = rw (time_again t rest stops) refl

pub some_text : (c : ℕ) (cs : List ℕ) → nat_eq (length (c ∷ cs)) 0 ≡ false
some_text c cs = grind (arith, nat_tests)

enclosed_again : (name rest : List ℕ) → 0 < length name → list_all is_enclosed name ≡ true
    → enclosed_at ((name ++ greater ∷ []) ++ rest) ≡ Some (name, rest)
unfolding enclosed_at
enclosed_again name rest some inside =
    let run = run_again is_enclosed name (greater ∷ rest) inside refl in
    let more : nat_eq (length name) 0 ≡ false = grind (arith, nat_tests) in
    rw (append_assoc, run.0, run.1, more) refl

pub name_again : {a name : List ℕ} → SpellsName a name → (rest : List ℕ) → begins is_ascii_alphabetic rest ≡ false
    → name_at (a ++ rest) ≡ Some (name, rest)
unfolding name_at letters_at
name_again (enclosed {name} some inside) rest stops = enclosed_again name rest some inside
name_again (letters {name} three sixteen passes) rest stops =
    let run = run_again is_ascii_alphabetic name rest passes stops in
    let fewest : nat_le 3 (length name) ≡ true = grind (arith, nat_tests) in
    let most : nat_le (length name) 16 ≡ true = grind (arith, nat_tests) in
    rw (
      run_first is_ascii_alphabetic (after_mark less) None (no_letter_is less refl) name rest (omega arith) passes,
      run.0,
      run.1,
      fewest,
      most,
    ) refl

weekday_again : {a b c : List ℕ} {m n d : ℕ} → SpellsNumber 8 a m → SpellsNumber 8 b n → SpellsNumber 8 c d → (rest : List ℕ)
    → begins is_ascii_digit rest ≡ false → weekday_at ((a ++ dot ∷ b ++ dot ∷ c) ++ rest) ≡ Some (M m n d, rest)
unfolding weekday_at
weekday_again {a} {b} {c} m n d rest stops =
    rw (
      append_assoc,
      append_assoc,
      number_again m (dot ∷ (b ++ (dot ∷ (c ++ rest)))) refl,
      number_again n (dot ∷ (c ++ rest)) refl,
      number_again d rest stops,
    ) refl

pub date_again : {a : List ℕ} {d : Date} → SpellsDate a d → (rest : List ℕ) → begins is_ascii_digit rest ≡ false
    → date_at (a ++ rest) ≡ Some (d, rest)
unfolding date_at
date_again (julian n) rest stops = rw (number_again n rest stops) refl
date_again (counted n) rest stops =
    rw (
      number_first (after_mark letter_J) None (no_digit_is letter_J refl) n rest,
      number_first (after_mark letter_M) None (no_digit_is letter_M refl) n rest,
      number_again n rest stops,
    ) refl
date_again (weekday m n d) rest stops = weekday_again m n d rest stops

pub over_stops : (rest : List ℕ) → is_over rest ≡ true → (begins goes_on rest ≡ false) × (begins is_ascii_alphabetic rest ≡ false)
over_stops [] e = (refl, refl)
over_stops (c ∷ rest) e = (grind (arith, nat_tests), grind (arith, nat_tests))

digit_goes : (c : ℕ) (cs : List ℕ) → is_ascii_digit c ≡ true → is_over (c ∷ cs) ≡ false
digit_goes c cs h = grind (arith, nat_tests)

pub digit_no_letter : (c : ℕ) (cs : List ℕ) → is_ascii_digit c ≡ true → begins is_ascii_alphabetic (c ∷ cs) ≡ false
digit_no_letter c cs h = grind (arith, nat_tests)

pub own_offset_again : {a : List ℕ} {o : Option Offset} → Optional SpellsOffset a o → (rest : List ℕ) → is_over rest ≡ true
    → own_offset_at (a ++ rest) ≡ Some (o, rest)
unfolding own_offset_at
own_offset_again absent rest over = rw over refl
own_offset_again (present o) rest over =
    rw (offset_first is_over false digit_goes (λ cs. refl) (λ cs. refl) o rest, offset_again o rest (over_stops rest over).0) refl

pub after_name : {a : List ℕ} {o : Option Offset} → Optional SpellsOffset a o → (rest : List ℕ) → is_over rest ≡ true
    → begins is_ascii_alphabetic (a ++ rest) ≡ false
after_name absent rest over = (over_stops rest over).1
after_name (present o) rest over = offset_first (begins is_ascii_alphabetic) false digit_no_letter (λ cs. refl) (λ cs. refl) o rest

pub letter_stops : (c : ℕ) (cs : List ℕ) → is_ascii_alphabetic c ≡ true → begins goes_on (c ∷ cs) ≡ false
letter_stops c cs h = grind (arith, nat_tests)

rule_over : {T : Type 0} {range : TimeRange T} {a : List ℕ} {r : Option (Rule T)} → Optional (SpellsRule range) a r → is_over a ≡ true
rule_over absent = refl
rule_over (present (rule s e)) = refl

dst_stops : {T : Type 0} {range : TimeRange T} {a : List ℕ} {d : Option (DstPart T)} → Optional (SpellsDst range) a d → begins goes_on a ≡ false
dst_stops absent = refl
dst_stops (present (dst {a} {b} {c} name o r)) = rw append_assoc (name_first (begins goes_on) false letter_stops (λ cs. refl) name (b ++ c))

-- with times that are read so
module _ {T : Type 0} {range : TimeRange T} {time_at : List ℕ → Option (T × List ℕ)} (reads : AreRead range time_at) where
  moment_again : {a : List ℕ} {v : Date × Option T} → SpellsMoment range a v → (rest : List ℕ) → begins goes_on rest ≡ false
      → moment_at time_at (a ++ rest) ≡ Some (v, rest)
  unfolding moment_at
  moment_again (date d) rest stops = rw (date_again d rest (stop_digit rest stops), no_mark slash rest (stop_slash rest stops)) refl
  moment_again (timed {a} {b} d t) rest stops = rw (append_assoc, date_again d (slash ∷ (b ++ rest)) refl, reads.again t rest stops) refl

  rule_again : {a : List ℕ} {r : Rule T} → SpellsRule range a r → rule_in time_at a ≡ Some r
  unfolding rule_in
  rule_again (rule {a} {b} s e) =
      let last = rw append-nil at (moment_again e [] refl) in
      rw (moment_again s (comma ∷ b) refl, last) refl

  own_rule_again : {a : List ℕ} {r : Option (Rule T)} → Optional (SpellsRule range) a r → own_rule_in time_at a ≡ Some r
  unfolding own_rule_in
  own_rule_again absent = refl
  own_rule_again (present (rule {a} {b} s e)) = rw (rule_again (rule s e), some_text comma (a ++ comma ∷ b)) refl

  dst_again : {a : List ℕ} {d : Option (DstPart T)} → Optional (SpellsDst range) a d → dst_in time_at a ≡ Some d
  unfolding dst_in
  dst_again absent = refl
  dst_again (present (dst {a} {b} {c} name o r)) =
      let over = rule_over r in
      let some = name_first (λ text. nat_eq (length text) 0) false (λ c cs h. some_text c cs) (some_text less) name (b ++ c) in
      rw (append_assoc, some, name_again name (b ++ c) (after_name o c over), own_offset_again o c over, own_rule_again r) refl

  -- what is spelled is read
  pub entry_again : {text : List ℕ} {value : Value T} → SpellsIn range text value → entry_in time_at text ≡ Some value
  unfolding entry_in short_in expanded_in
  entry_again (short_form name) =
      let whole = rw append-nil at (name_again name [] refl) in
      rw whole refl
  entry_again (full_form {a} {b} {c} name o d) =
      rw (
        append_assoc,
        name_first (after_mark colon) None (no_letter_is colon refl) (λ cs. refl) name (b ++ c),
        name_again name (b ++ c) (offset_first (begins is_ascii_alphabetic) false digit_no_letter (λ cs. refl) (λ cs. refl) o c),
        offset_again o c (dst_stops d),
        dst_again d,
      ) refl

pub runs_are_longest : {T : Type 0} {range : TimeRange T} → RunsAreLongest range
runs_are_longest = record {
  after_standard_name = λ o rest. offset_first (begins is_ascii_alphabetic) false digit_no_letter (λ cs. refl) (λ cs. refl) o rest;
  after_name = λ o r. after_name o _ (rule_over r);
  after_standard_offset = λ {a} d. stop_digit a (dst_stops d);
  after_offset = λ {a} r. stop_digit a (over_stops a (rule_over r)).0;
}
