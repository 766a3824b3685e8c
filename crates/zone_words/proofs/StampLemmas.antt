-- A time at the front of a text is read where there is one.
use Rattle.std.proofs.Common.{◌≡◌, refl, sym, ap, subst, ◌∙◌, arith, ℕ, ◌-◌, ◌*◌, ◌^◌, ◌<◌, ◌≤◌, inl, inr, Bool, true, false, cond, nat_eq, nat_le, min}
use Rattle.std.proofs.{Common.{List, [], ◌∷◌, ◌++◌, length, length-append, append_assoc, Option, Some, None, Result, Ok, Err, is_ok, ℤ, pos, option_map, MatchOption}, lemmas.Bool.{and_parts}, lemmas.Bool.Decides.{nat_tests}, lemmas.List.{take-append-drop}}
use Rattle.std.proofs.{lemmas.Option.{same_Some, none-some}, Math.Nat.{min-eq_left, le-mul_of_pos_right}}
use Rattle.std.specs.{Result.{result_ok}, Char.{is_ascii_digit}, List.{prefix_len, list_all}}
use Rattle.basics.specs.{LogicLaws.{map_some, bind_some}, SignedLaws.{signed}, Marks.{after_mark}}
use Rattle.civil_base.specs.{DateTimes.{instant as instant_of}, Layout.{two_digits}, Ranges.{IsInYears}, RangeLaws.{years_between}, declared.offset_date_time.OffsetDateTime.{OffsetDateTime}}
use Rattle.zone_words.{proofs.{AgainLemmas.{begins, goes_on, run_again, no_digit}, FoundLemmas.{marked, chosen, passed, same_Ok}, NumberLemmas.{run_passes}}, specs.{Numbers.{counted}, Pieces.{digit_at, two_at, four_at, date_at, run_of, after_run}, Readings.{count_at, count_in, count_of, size_at, front_at, zoned_at, zoned_in, in_years}, TimesShown.{stamp_shown}, Spells.{AreDigits, since, before, zoned, time}, Stamps.{is_apart, is_near, near, unit_of, SpellsStamp, instant, plain, HasStamp, stamp, stamped, numbered, left_in, stamp_in}, declared.text_fault.TextFault.{TextFault}, declared.text_fault.TextFault.TheVariants.{OutOfYears}, declared.form.{WrittenInstant.{WrittenInstant}, WrittenCount.{WrittenCount}}}}
use Rattle.zone_words.proofs.InstantAgainLemmas as again
use Rattle.zone_words.proofs.InstantFoundLemmas as found

apart_stops : (rest : List ℕ) → is_apart rest ≡ true → begins goes_on rest ≡ false
apart_stops [] apart = refl
apart_stops (c ∷ rest) apart = grind (arith, nat_tests)

no_mark : (mark : ℕ) (a rest : List ℕ) → is_ascii_digit mark ≡ false → 0 < length a → list_all is_ascii_digit a ≡ true → after_mark mark (a ++ rest) ≡ None
no_mark mark [] rest other some are = absurd (omega arith)
no_mark mark (c ∷ a) rest other some are =
    let first = (and_parts (is_ascii_digit c) _ are).0 in
    let differs : nat_eq c mark ≡ false = grind (arith, nat_tests) in
    rw differs refl

-- five digits are no date
no_date : (a rest : List ℕ) → 5 ≤ length a → list_all is_ascii_digit a ≡ true → is_ok (zoned_at (a ++ rest)) ≡ false
unfolding zoned_at front_at date_at four_at two_at digit_at
no_date [] rest long are = absurd (omega arith)
no_date (c ∷ []) rest long are = absurd (omega arith)
no_date (c ∷ d ∷ []) rest long are = absurd (omega arith)
no_date (c ∷ d ∷ e ∷ []) rest long are = absurd (omega arith)
no_date (c ∷ d ∷ e ∷ f ∷ []) rest long are = absurd (omega arith)
no_date (c ∷ d ∷ e ∷ f ∷ g ∷ a) rest long are =
    let first = and_parts (is_ascii_digit c) _ are in
    let second = and_parts (is_ascii_digit d) _ first.1 in
    let third = and_parts (is_ascii_digit e) _ second.1 in
    let fourth = and_parts (is_ascii_digit f) _ third.1 in
    let fifth = and_parts (is_ascii_digit g) _ fourth.1 in
    let other : nat_eq g 45 ≡ false = grind (arith, nat_tests, fifth.0) in
    rw (first.0, second.0, third.0, fourth.0, other) refl

unit_some : (k u : ℕ) → unit_of k ≡ Some u → (9 ≤ k) × (1 ≤ u)
unfolding unit_of
unit_some k u e = (grind (arith, nat_tests), grind (arith, nat_tests))

-- what is near lies in the years
pub near_years : (n : ℕ) → n < 2840140800000000000 → in_years (pos n) ≡ Ok (pos n)
near_years n below = again.within (pos n) (years_between (pos n) (omega (arith, signed)) (omega (arith, signed)))

plain_few : (n u : ℕ) → 1 ≤ u → is_near (n * u) ≡ true → n < 10 ^ 25
plain_few n u some inside =
    let most : n * u < 2840140800000000000 = grind (arith, nat_tests, (and_parts (nat_le 631152000000000000 (n * u)) _ inside).1) in
    let less : n ≤ n * u = le-mul_of_pos_right n some in
    omega (arith, most, less)

plain_again : {a : List ℕ} {n u : ℕ} → AreDigits a n → unit_of (length a) ≡ Some u → is_near (n * u) ≡ true → (rest : List ℕ) → is_apart rest ≡ true
    → numbered (a ++ rest) ≡ Some (pos (n * u), length rest)
unfolding numbered
plain_again {a} {n} {u} are unit inside rest apart =
    let run = run_again a rest are.digits (no_digit rest (apart_stops rest apart)) in
    let few = plain_few n u (unit_some (length a) u unit).1 inside in
    let count : count_of a ≡ n = ap (λ k. min k (10 ^ 25)) are.value ∙ min-eq_left (omega arith) in
    rw (run.0, run.1, unit, count, apart, inside) refl

left_again : {a : List ℕ} {t : ℤ} → SpellsStamp a t → (rest : List ℕ) → is_apart rest ≡ true → left_in (a ++ rest) ≡ Some (t, length rest)
unfolding left_in count_in
left_again (instant (since {a} {b} {n} {f} are fraction inside)) rest apart =
    let count = again.count_again are fraction (again.few false n f inside) rest (apart_stops rest apart) in
    rw (append_assoc a b rest, count, apart, again.within _ inside) refl
left_again (instant (before {a} {b} {n} {f} are fraction inside)) rest apart =
    let count = again.before_again are fraction (again.few true n f inside) rest (apart_stops rest apart) in
    rw (append_assoc a b rest, count, apart, again.within _ inside) refl
left_again (instant (zoned {a} {z = z} c dated mark (time {a = m} {b = f} {s = s} timed small fraction) exist offset inside)) rest apart =
    rw (
      again.laid_out a m f z rest c s,
      again.no_at dated (c ∷ (m ++ (58 ∷ (two_digits s ++ (f ++ (z ++ rest)))))),
      again.zoned_form_again c dated mark timed small fraction offset rest,
      again.zoned_value dated exist offset inside,
      apart,
    ) refl
left_again (plain {a} are unit inside) rest apart =
    let some = unit_some (length a) _ unit in
    rw (
      no_mark 64 a rest refl are.some are.digits,
      no_date a rest (omega (arith, some.0)) are.digits,
      plain_again are unit inside rest apart,
    ) refl

-- the same by the bytes that follow
data HasLeft : List ℕ → ℤ → ℕ → Type 0 where
  left : {a : List ℕ} {t : ℤ} (rest : List ℕ) → SpellsStamp a t → is_apart rest ≡ true → HasLeft (a ++ rest) t (length rest)

size_is : (a rest : List ℕ) → length (a ++ rest) - length rest ≡ length a
size_is a rest = omega (arith, length-append a rest)

has_size : {text : List ℕ} {t : ℤ} {k : ℕ} → HasLeft text t k → HasStamp text t (length text - k)
has_size (left {a} {t} rest spelled apart) = subst (HasStamp (a ++ rest) t) (sym (size_is a rest)) (stamp rest spelled apart)

-- what a form at the front gave
record Gave {F : Type 0} (r : Result (F × List ℕ) TextFault) (value : F → Result ℤ TextFault) (y : ℤ × ℕ) : Type 0 where
  read : F × List ℕ
  is : r ≡ Ok read
  apart : is_apart read.1 ≡ true
  gives : value read.0 ≡ Ok y.0
  after : length read.1 ≡ y.1

ok_found : (r : Result ℤ TextFault) (k : ℕ) (y : ℤ × ℕ) → option_map (λ t. (t, k)) (result_ok r) ≡ Some y → (r ≡ Ok y.0) × (k ≡ y.1)
ok_found (Ok t) k y e = (ap (λ p. Ok p.0) (same_Some _ y e), ap (λ p. p.1) (same_Some _ y e))
ok_found (Err fault) k y e = absurd (none-some y e)

stamped_found : {F : Type 0} (r : Result (F × List ℕ) TextFault) (value : F → Result ℤ TextFault) (y : ℤ × ℕ) → stamped r value ≡ Some y → Gave r value y
stamped_found (Ok read) value y e =
    let both = cond_option (is_apart read.1) _ y e in
    let given = ok_found (value read.0) (length read.1) y both.1 in
    record { read = read; is = refl; apart = both.0; gives = given.0; after = given.1 }
  where
    cond_option : {A : Type 0} (b : Bool) (o : Option A) (z : A) → cond b o None ≡ Some z → (b ≡ true) × (o ≡ Some z)
    cond_option true o z e = (refl, e)
    cond_option false o z e = absurd (none-some z e)
stamped_found (Err fault) value y e = absurd (none-some y e)

since_stamp : {text rest : List ℕ} {form : WrittenCount} → found.TakesCount false text form rest → is_apart rest ≡ true
    → IsInYears (counted form.before form.seconds form.nanosecond) → HasLeft (64 ∷ text) (counted form.before form.seconds form.nanosecond) (length rest)
since_stamp (found.takes_count {a} {b} {rest} are fraction) apart inside =
    rw (← append_assoc a b rest) (left rest (instant (since are fraction inside)) apart)

before_stamp : {text rest : List ℕ} {form : WrittenCount} → found.TakesCount true text form rest → is_apart rest ≡ true
    → IsInYears (counted form.before form.seconds form.nanosecond) → HasLeft (64 ∷ (45 ∷ text)) (counted form.before form.seconds form.nanosecond) (length rest)
before_stamp (found.takes_count {a} {b} {rest} are fraction) apart inside =
    rw (← append_assoc a b rest) (left rest (instant (before are fraction inside)) apart)

zoned_stamp : {text rest : List ℕ} {form : WrittenInstant} {x : ℤ} → found.TakesZoned text form rest → is_apart rest ≡ true → found.Means form x
    → HasLeft text x (length rest)
zoned_stamp (found.takes_zoned {a} {b} {z} {rest} c dated mark timed offset) apart means =
    subst (λ t. HasLeft ((a ++ (c ∷ b) ++ z) ++ rest) t (length rest)) means.value (left rest (instant (zoned c dated mark timed means.exist offset means.inside)) apart)

count_stamp : (text : List ℕ) (y : ℤ × ℕ) → Gave (count_at text) count_in y → HasLeft (64 ∷ text) y.0 y.1
unfolding count_at count_in
count_stamp text y gave =
    let form = gave.read.0 in
    let years = found.years_found (counted form.before form.seconds form.nanosecond) y.0 gave.gives in
    let bound = again.few form.before form.seconds form.nanosecond years.0 in
    subst (λ k. HasLeft (64 ∷ text) y.0 k) gave.after (subst (λ t. HasLeft (64 ∷ text) t (length gave.read.1)) years.1
    (elim (marked (size_at true) 45 text (size_at false text) (Ok gave.read) gave.is) [
      | inl minus ↦ rw minus.1 (before_stamp (found.size_found true minus.0 gave.read minus.2 bound) gave.apart years.0)
      | inr other ↦ since_stamp (found.size_found false text gave.read other.1 bound) gave.apart years.0
    ]))

near_found : (n : ℕ) (x : ℤ) → near n ≡ Ok x → (is_near n ≡ true) × (pos n ≡ x)
near_found n x e =
    let both = passed (is_near n) (Ok (pos n)) OutOfYears x e in
    (both.0, same_Ok (pos n) x both.1)

plain_stamp : (text : List ℕ) (y : ℤ × ℕ) → numbered text ≡ Some y → HasLeft text y.0 y.1
unfolding numbered
plain_stamp text y e =
    let run = run_of text in
    let unit = bind_some _ (unit_of (length run)) y e in
    let some = unit_some (length run) unit.0 unit.1 in
    let counted : Result (ℕ × List ℕ) TextFault = Ok (count_of run * unit.0, after_run text) in
    let gave : Gave counted near y = stamped_found counted near y unit.2 in
    let same : (count_of run * unit.0, after_run text) ≡ gave.read = same_Ok _ gave.read gave.is in
    let years = near_found gave.read.0 y.0 gave.gives in
    let number : count_of run * unit.0 ≡ gave.read.0 = ap (λ p. p.0) same in
    let inside : is_near (count_of run * unit.0) ≡ true = rw number years.0 in
    let few = plain_few (count_of run) unit.0 some.1 inside in
    let are : AreDigits run (count_of run) = record { some = omega (arith, some.0); digits = run_passes text; value = omega (arith, few) } in
    let rest : after_run text ≡ gave.read.1 = ap (λ p. p.1) same in
    let whole : HasLeft (run ++ after_run text) (pos (count_of run * unit.0)) (length (after_run text)) =
    left (after_run text) (plain are unit.1 inside) (rw rest gave.apart) in
    subst (λ k. HasLeft text y.0 k) (ap length rest ∙ gave.after)
    (subst (λ t. HasLeft text t (length (after_run text))) (ap pos number ∙ years.1)
    (subst (λ t. HasLeft t (pos (count_of run * unit.0)) (length (after_run text))) (take-append-drop (prefix_len is_ascii_digit text) text) whole))

left_found : (text : List ℕ) (y : ℤ × ℕ) → left_in text ≡ Some y → HasLeft text y.0 y.1
unfolding left_in
left_found text y e = elim (marked (λ rest. stamped (count_at rest) count_in) 64 text _ (Some y) e) [
  | inl at ↦ rw at.1 (count_stamp at.0 y (stamped_found (count_at at.0) count_in y at.2))
  | inr other ↦ elim (chosen (is_ok (zoned_at text)) (stamped (zoned_at text) zoned_in) (numbered text) (Some y) other.1) [
    | inl form ↦
        let gave = stamped_found (zoned_at text) zoned_in y form.1 in
        let means = found.zoned_value_found gave.read.0 y.0 gave.gives in
        subst (λ k. HasLeft text y.0 k) gave.after (zoned_stamp (found.zoned_form_found text gave.read gave.is means.real) gave.apart means)
    | inr none ↦ plain_stamp text y none.1
  ]
]

has_again : {text : List ℕ} {t : ℤ} {size : ℕ} → HasStamp text t size → stamp_in text ≡ Some (t, size)
has_again (stamp {a} {t} rest spelled apart) = rw (left_again spelled rest apart, size_is a rest) refl

pub stamp_exact : (text : List ℕ) (r : Option (OffsetDateTime × ℕ)) → option_map stamp_shown r ≡ stamp_in text
    → MatchOption r ((t : ℤ) (size : ℕ) → ¬ (HasStamp text t size)) (λ x. HasStamp text (instant_of x.0) x.1)
stamp_exact text (Some x) e =
    let l = map_some _ (left_in text) (stamp_shown x) (sym e) in
    subst (λ (p : ℤ × ℕ). HasStamp text p.0 p.1) l.2 (has_size (left_found text l.0 l.1))
stamp_exact text None e = λ t size has. none-some (t, size) (e ∙ has_again has)

pub one_stamp : (text : List ℕ) (t u : ℤ) (size other : ℕ) → HasStamp text t size → HasStamp text u other → (t ≡ u) × (size ≡ other)
one_stamp text t u size other one two =
    let same = same_Some (t, size) (u, other) (sym (has_again one) ∙ has_again two) in
    (ap (λ p. p.0) same, ap (λ p. p.1) same)
