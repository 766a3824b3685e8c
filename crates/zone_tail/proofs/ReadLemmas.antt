-- A candidate's text spells its value, whose parts are in their ranges, and which stands for its zone.
use Rattle.std.proofs.Common.{◌≡◌, ℕ, ◌/◌, ◌%◌, ◌^◌, ◌<◌, ◌≤◌, Bool, true, false, not, cond, ◌&&◌, ◌==◌, List, [], ◌∷◌, ◌++◌, length, Some, None, option_and_then, Ok, nat_le, nat_lt, eqb-true, IsTrue, ℤ, pos, neg_ℤ, ◌+ℤ◌, int_lt, int_eq, unsigned_abs, refl, sym, ap, ◌∙◌, subst, arith}
use Rattle.std.proofs.lemmas.{Bool.{and_from, and_parts, leb-true}, Bool.Decides.{nat_tests}, Fmt.{decimal_is_IsNumeral, digits_decimal}, Int.{ints}, List.{append-nil, append_assoc}, List.Folds.{list_all-append}}
use Rattle.std.specs.{Prelude.{codes}, Char.{is_ascii_alphabetic, is_ascii_digit}, Fmt.{decimal}, List.{list_all}, Option.{option_map_or}}
use Rattle.basics.specs.{NumberLaws.{digits}, ComparisonLaws.{lt_from_fail, lt_from_pass}, SignedLaws.{signed, one_sided}}
use Rattle.civil_base.specs.Offsets.{signed_by}
use Rattle.tz_lookup.specs.declared.set.FixedTimespanSet.{FixedTimespanSet}
use Rattle.tz_posix.specs.{InForce.{yearly_time}, Marks.{colon, comma, dot, greater, less, letter_M}, PosixZones.{fixed, ruled}, Ranges.{date_miss, first_miss, first_some, is_time, offset_miss, posix_range, rule_range, rule_time_miss}, Resolved.{resolved}}
use Rattle.tz_posix.specs.Seconds.{east_of, offset_seconds, part, time_seconds}
use Rattle.tz_posix.specs.Spells.{absent, date, day_times, dst, enclosed, full_form, hours, is_enclosed, letters, minus, minutes, bare, present, rule, seconds, timed, weekday, SpellsDate, SpellsMoment, SpellsName, SpellsNumber, SpellsOffset, SpellsRule, SpellsTime, Optional, Spells}
use Rattle.tz_posix.specs.declared.error.RangeError.TheVariants as miss
use Rattle.zone_tail.specs.{Candidates.{IsSoundCandidate}, Ready.{CanBeWritten, IsNamedBy}, Rules.{IsChange, date_of, time_of}, Tails.{can_be_written, is_name, is_name_byte}}
use Rattle.zone_tail.specs.Texts.{change_text, is_plain, name_text, offset_text, rule_text, saving_text, text_of, time_text, two_digits}
use Rattle.zone_tail.specs.{Values.{clock_value, minute_value, moment_value, named, offset_value, rule_value, saving_value, second_value, time_value, value_of, zone_of}, declared.candidate.Candidate.{Candidate}}
use Rattle.zone_tail.specs.declared.{candidate.Candidate.TheVariants.{Fixed, Ruled}, rule.Change.{Change}, rule.YearlyRule.{YearlyRule}}

-- ---- numbers

number : (n : ℕ) → n < 256 → SpellsNumber 8 (decimal n) n
number n few =
    let small : n < 2 ^ 64 = omega arith in
    let is = decimal_is_IsNumeral n small in
    record { some = is.0.0; digits = digits_decimal digits n small; value = is.1; fits = omega arith }

-- after a zero
zero_led : (n : ℕ) → n < 256 → SpellsNumber 8 (codes "0" ++ decimal n) n
zero_led n few =
    let is = number n few in
    record {
      some = omega arith;
      digits = list_all-append is_ascii_digit (codes "0") (decimal n) ∙ is.digits;
      value = is.value;
      fits = omega arith;
    }

two : (n : ℕ) → n < 256 → SpellsNumber 8 (two_digits n) n
two n few = by_test (nat_lt n 10)
  where
    by_test : (b : Bool) → SpellsNumber 8 (cond b (codes "0") [] ++ decimal n) n
    by_test true = zero_led n few
    by_test false = number n few

-- ---- times

time_by : (h m s : ℕ) → h < 256 → m < 256 → s < 256 → (b c : Bool) → (m == 0 && s == 0) ≡ b → (s == 0) ≡ c
    → SpellsTime (decimal h ++ cond b [] (codes ":" ++ two_digits m ++ cond c [] (codes ":" ++ two_digits s)))
    (record { hh = h; mm = cond b None (Some m); ss = cond c None (Some s) })
time_by h m s few_h few_m few_s true true e f =
    subst (λ t. SpellsTime t (record { hh = h; mm = None; ss = None })) (sym (append-nil (decimal h))) (hours (number h few_h))
time_by h m s few_h few_m few_s true false e f = let parts = and_parts (m == 0) (s == 0) e in cc
time_by h m s few_h few_m few_s false true e f =
    subst (λ t. SpellsTime (decimal h ++ t) (record { hh = h; mm = Some m; ss = None })) (sym (append-nil (colon ∷ two_digits m)))
    (minutes (number h few_h) (two m few_m))
time_by h m s few_h few_m few_s false false e f =
    subst (λ t. SpellsTime t (record { hh = h; mm = Some m; ss = Some s })) (append_assoc (decimal h) (colon ∷ two_digits m) (colon ∷ two_digits s))
    (seconds (number h few_h) (two m few_m) (two s few_s))

time_spelled : (n : ℕ) → n < 90000 → SpellsTime (time_text n) (time_value n)
unfolding time_text
time_spelled n few =
    time_by (n / 3600) (n / 60 % 60) (n % 60) (omega arith) (omega arith) (omega arith) (n / 60 % 60 == 0 && n % 60 == 0) (n % 60 == 0) refl refl

part_minute : (m s : ℕ) → part (minute_value m s) ≡ m
part_minute m s = by_test (m == 0 && s == 0) refl
  where
    by_test : (b : Bool) → (m == 0 && s == 0) ≡ b → part (cond b None (Some m)) ≡ m
    by_test true e = sym (eqb-true m 0 (and_parts (m == 0) (s == 0) e).0)
    by_test false e = refl

part_second : (s : ℕ) → part (second_value s) ≡ s
part_second s = by_test (s == 0) refl
  where
    by_test : (b : Bool) → (s == 0) ≡ b → part (cond b None (Some s)) ≡ s
    by_test true e = sym (eqb-true s 0 e)
    by_test false e = refl

seconds_are : (n : ℕ) → time_seconds (time_value n) ≡ n
unfolding time_seconds
seconds_are n = omega (arith, part_minute (n / 60 % 60) (n % 60), part_second (n % 60))

in_clock : (most n : ℕ) → n / 3600 ≤ most → is_time most (time_value n) ≡ true
in_clock most n few =
    let m = part_minute (n / 60 % 60) (n % 60) in
    let s = part_second (n % 60) in
    rw (m, s) (by_numbers (n / 3600) (n / 60 % 60) (n % 60) few (omega arith) (omega arith))
  where
    by_numbers : (h m s : ℕ) → h ≤ most → m ≤ 59 → s ≤ 59 → (nat_le h most && nat_le m 59 && nat_le s 59) ≡ true
    by_numbers h m s a b c = grind (arith, nat_tests)

-- ---- offsets

size_few : (east : ℤ) → IsTrue (can_be_written east) → unsigned_abs east < 90000
size_few east h = omega (arith, leb-true _ _ h)

offset_spelled : (east : ℤ) → IsTrue (can_be_written east) → SpellsOffset (offset_text east) (offset_value east)
unfolding offset_text
offset_spelled east h = by_test (int_lt (pos 0) east)
  where
    by_test : (b : Bool) → SpellsOffset (cond b (codes "-") [] ++ time_text (unsigned_abs east)) (record { positive = not b; time = time_value (unsigned_abs east) })
    by_test true = minus (time_spelled (unsigned_abs east) (size_few east h))
    by_test false = bare (time_spelled (unsigned_abs east) (size_few east h))

east_is : (east : ℤ) → east_of (offset_value east) ≡ east
unfolding offset_seconds
east_is east = ap (λ n. neg_ℤ (signed_by (not (not (int_lt (pos 0) east))) n)) (seconds_are (unsigned_abs east)) ∙ by_test (int_lt (pos 0) east) refl
  where
    by_test : (b : Bool) → int_lt (pos 0) east ≡ b → neg_ℤ (signed_by (not (not b)) (unsigned_abs east)) ≡ east
    by_test true e = let above = lt_from_pass (pos 0) east e in omega (arith, signed, one_sided east)
    by_test false e = let below = lt_from_fail (pos 0) east e in omega (arith, signed, one_sided east)

offset_in_range : (east : ℤ) → IsTrue (can_be_written east) → offset_miss (offset_value east) ≡ None
offset_in_range east h =
    ap (λ b. cond b None (Some miss.Time)) (in_clock 24 (unsigned_abs east) (let few = size_few east h in omega arith))

-- ---- names

enclosed_bytes : (name : List ℕ) → list_all is_name_byte name ≡ true → list_all is_enclosed name ≡ true
enclosed_bytes [] h = refl
enclosed_bytes (c ∷ cs) h =
    let parts = and_parts (is_name_byte c) (list_all is_name_byte cs) h in
    let first = and_parts (not (c == less) && not (c == greater) && not (c == 10)) (not (c == 0)) parts.0 in
    let second = and_parts (not (c == less) && not (c == greater)) (not (c == 10)) first.0 in
    and_from (is_enclosed c) (list_all is_enclosed cs) second.0 (enclosed_bytes cs parts.1)

name_spelled : (name : List ℕ) → is_name name ≡ true → SpellsName (name_text name) name
unfolding name_text
name_spelled name h = by_test (is_plain name) refl
  where
    by_test : (b : Bool) → is_plain name ≡ b → SpellsName (cond b name (codes "<" ++ name ++ codes ">")) name
    by_test true e =
        let parts = and_parts (nat_le 3 (length name) && nat_le (length name) 16) (list_all is_ascii_alphabetic name) e in
        let sizes = and_parts (nat_le 3 (length name)) (nat_le (length name) 16) parts.0 in
        letters (leb-true _ _ sizes.0) (leb-true _ _ sizes.1) parts.1
    by_test false e =
        let parts = and_parts (nat_le 1 (length name)) (list_all is_name_byte name) h in
        enclosed (leb-true _ _ parts.0) (enclosed_bytes name parts.1)

-- ---- changes

date_few : (change : Change) → IsChange change → (change.month < 256) × (change.week < 256) × (change.weekday < 256)
date_few change sound =
    let parts = and_parts _ (nat_le change.weekday 6) sound.date in
    let firsts = and_parts (nat_le 1 change.month && nat_le change.month 12) (nat_le 1 change.week && nat_le change.week 5) parts.0 in
    let month = leb-true _ _ (and_parts (nat_le 1 change.month) (nat_le change.month 12) firsts.0).1 in
    let week = leb-true _ _ (and_parts (nat_le 1 change.week) (nat_le change.week 5) firsts.1).1 in
    let day = leb-true _ _ parts.1 in
    (omega (arith, month), omega (arith, week), omega (arith, day))

date_text_is : (m w d : List ℕ) → letter_M ∷ m ++ dot ∷ w ++ dot ∷ d ≡ codes "M" ++ m ++ codes "." ++ w ++ codes "." ++ d
date_text_is m w d =
    ap (λ t. t ++ dot ∷ d) (sym (append_assoc (letter_M ∷ m) (dot ∷ []) w))
    ∙ sym (append_assoc (codes "M" ++ m ++ codes "." ++ w) (dot ∷ []) d)

date_spelled : (change : Change) → IsChange change
    → SpellsDate (codes "M" ++ decimal change.month ++ codes "." ++ decimal change.week ++ codes "." ++ decimal change.weekday) (date_of change)
date_spelled change sound =
    let few = date_few change sound in
    subst (λ t. SpellsDate t (date_of change)) (date_text_is (decimal change.month) (decimal change.week) (decimal change.weekday))
    (weekday (number change.month few.0) (number change.week few.1) (number change.weekday few.2))

moment_spelled : (change : Change) → IsChange change → SpellsMoment day_times (change_text change) (moment_value change)
unfolding change_text
moment_spelled change sound = by_test (change.second == 7200)
  where
    by_test : (b : Bool)
        → SpellsMoment day_times (codes "M" ++ decimal change.month ++ codes "." ++ decimal change.week ++ codes "." ++ decimal change.weekday ++ cond b [] (codes "/" ++ time_text change.second))
        (date_of change, cond b None (Some (time_value change.second)))
    by_test true =
        subst (λ t. SpellsMoment day_times t (date_of change, None)) (sym (append-nil (codes "M" ++ decimal change.month ++ codes "." ++ decimal change.week ++ codes "." ++ decimal change.weekday)))
        (date (date_spelled change sound))
    by_test false = timed (date_spelled change sound) (time_spelled change.second (omega (arith, sound.second)))

rule_spelled : (q : YearlyRule) → IsChange q.start → IsChange q.end → SpellsRule day_times (rule_text q) (rule_value q)
unfolding rule_text
rule_spelled q start end =
    subst (λ t. SpellsRule day_times t (rule_value q)) (sym (append_assoc (comma ∷ change_text q.start) (comma ∷ []) (change_text q.end)))
    (rule (moment_spelled q.start start) (moment_spelled q.end end))

date_in_range : (change : Change) → IsChange change → date_miss (date_of change) ≡ None
date_in_range change sound = ap (λ b. cond b None (Some miss.Date)) sound.date

clock_in_range : (change : Change) → IsChange change → rule_time_miss day_times (clock_value change.second) ≡ None
clock_in_range change sound = by_test (change.second == 7200)
  where
    by_test : (b : Bool) → rule_time_miss day_times (cond b None (Some (time_value change.second))) ≡ None
    by_test true = refl
    by_test false = ap (λ b. cond b None (Some miss.Time)) (in_clock 23 change.second (let few = sound.second in omega arith))

rule_in_range : (q : YearlyRule) → IsChange q.start → IsChange q.end → rule_range day_times (rule_value q) ≡ None
rule_in_range q start end =
    λ i. first_some (date_in_range q.start start i ∷ date_in_range q.end end i ∷ clock_in_range q.start start i ∷ clock_in_range q.end end i ∷ [])

time_is : (change : Change) → yearly_time (moment_value change) ≡ time_of change
time_is change = ap (λ n. (date_of change, n)) (by_test (change.second == 7200) refl)
  where
    by_test : (b : Bool) → (change.second == 7200) ≡ b → option_map_or (λ time. pos (time_seconds time)) (cond b None (Some (time_value change.second))) (pos 7200) ≡ pos change.second
    by_test true e = ap pos (sym (eqb-true change.second 7200 e))
    by_test false e = ap pos (seconds_are change.second)

-- ---- daylight saving time's own offset

saving_spelled : (standard saving : ℤ) → IsTrue (can_be_written saving) → Optional SpellsOffset (saving_text standard saving) (saving_value standard saving)
unfolding saving_text
saving_spelled standard saving h = by_test (int_eq saving (standard +ℤ pos 3600))
  where
    by_test : (b : Bool) → Optional SpellsOffset (cond b [] (offset_text saving)) (cond b None (Some (offset_value saving)))
    by_test true = absent
    by_test false = present (offset_spelled saving h)

saving_in_range : (standard saving : ℤ) → IsTrue (can_be_written saving) → option_and_then offset_miss (saving_value standard saving) ≡ None
saving_in_range standard saving h = by_test (int_eq saving (standard +ℤ pos 3600))
  where
    by_test : (b : Bool) → option_and_then offset_miss (cond b None (Some (offset_value saving))) ≡ None
    by_test true = refl
    by_test false = offset_in_range saving h

saving_is : (standard saving : ℤ) → option_map_or east_of (saving_value standard saving) (standard +ℤ pos 3600) ≡ saving
saving_is standard saving = by_test (int_eq saving (standard +ℤ pos 3600)) refl
  where
    same_int : (a b : ℤ) → int_eq a b ≡ true → b ≡ a
    same_int a b h = grind (arith, ints)

    by_test : (b : Bool) → int_eq saving (standard +ℤ pos 3600) ≡ b → option_map_or east_of (cond b None (Some (offset_value saving))) (standard +ℤ pos 3600) ≡ saving
    by_test true e = same_int saving (standard +ℤ pos 3600) e
    by_test false e = east_is saving

-- ---- the whole

dst_text_is : (x n s r : List ℕ) → x ++ (n ++ s ++ r) ≡ x ++ n ++ s ++ r
dst_text_is x n s r = sym (append_assoc x (n ++ s) r) ∙ ap (λ l. l ++ r) (sym (append_assoc x n s))

pub text_spelled : (standard saving : List ℕ) (c : Candidate) → IsNamedBy standard saving c → CanBeWritten c → IsSoundCandidate c
    → Spells (text_of standard saving c) (value_of standard saving c)
unfolding text_of value_of
text_spelled standard saving (Fixed total) names written sound =
    subst (λ t. Spells t (value_of standard saving (Fixed total))) (append-nil (name_text standard ++ offset_text total))
    (full_form (name_spelled standard names) (offset_spelled total written) absent)
text_spelled standard saving (Ruled q) names written sound =
    subst (λ t. Spells t (value_of standard saving (Ruled q)))
    (dst_text_is (name_text standard ++ offset_text q.standard) (name_text saving) (saving_text q.standard q.saving) (rule_text q))
    (full_form (name_spelled standard names.0) (offset_spelled q.standard written.standard)
    (present (dst (name_spelled saving names.1) (saving_spelled q.standard q.saving written.saving) (present (rule_spelled q sound.start sound.end)))))

pub value_in_range : (standard saving : List ℕ) (c : Candidate) → CanBeWritten c → IsSoundCandidate c → posix_range (value_of standard saving c) ≡ None
unfolding first_miss value_of
value_in_range standard saving (Fixed total) written sound = offset_in_range total written
value_in_range standard saving (Ruled q) written sound =
    λ i. first_some (offset_in_range q.standard written.standard i ∷ saving_in_range q.standard q.saving written.saving i
    ∷ rule_in_range q sound.start sound.end i ∷ [])

pub value_stands : (standard saving : List ℕ) (c : Candidate) (zones : List FixedTimespanSet) → resolved zones (value_of standard saving c) ≡ Ok (zone_of standard saving c)
unfolding resolved value_of zone_of
value_stands standard saving (Fixed total) zones = λ i. Ok (fixed (named standard (east_is total i)))
value_stands standard saving (Ruled q) zones =
    (λ i. Ok (ruled (named standard (east_is q.standard i)) (named saving (option_map_or east_of (saving_value q.standard q.saving) (east_is q.standard i +ℤ pos 3600)))
    (time_is q.start i) (time_is q.end i)))
    ∙ (λ i. Ok (ruled (named standard q.standard) (named saving (saving_is q.standard q.saving i)) (time_of q.start) (time_of q.end)))
