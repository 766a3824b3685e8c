-- What is read is spelled.
use Rattle.std.proofs.Common.{◌≡◌, refl, sym, ap, subst, ◌∙◌, arith, ℕ, ◌+◌, ◌-◌, ◌*◌, ◌/◌, ◌%◌, ◌<◌, ◌⊎◌, inl, inr, Bool, true, false, cond, nat_eq, nat_lt}
use Rattle.std.proofs.{Common.{List, [], ◌∷◌, ◌++◌, length, append_assoc, append-nil, eqb-true, Option, Some, None, Result, Ok, Err, ok_or, ℤ, pos}, lemmas.Bool.Decides.{nat_tests}, lemmas.List.{take-append-drop, nil_from_length}}
use Rattle.std.proofs.lemmas.Option.{cond_some, same_Some, none-some}
use Rattle.std.specs.{Char.{is_ascii_digit}, List.{prefix_len}, Option.{option_map_or}, Result.{result_unwrap_or}}
use Rattle.basics.specs.{Days.{IsDate}, LogicLaws.{bind_some}, Marks.{after_mark}}
use Rattle.civil_base.specs.{Clock.{IsClockTime}, Layout.{two_digits, four_digits}, DigitLaws.{four_digits-halves}}
use Rattle.zone_words.{proofs.NumberLemmas.{run_passes}, specs.{Numbers.{is_separator, fraction_of, moment}, Pieces.{digit_at, two_at, four_at, date_at, separator_at, minute_at, second_at, run_of, after_run}, Readings.{digits_at, fraction_at, time_cause, front_at, seconds_at, moment_in, after_time, local_in, is_date, is_time, ended, ◌>>=◌}, Spells.{SpellsDate, date, SpellsMinute, minute, AreFraction, SpellsFraction, whole, digits, SpellsTime, time, Exist, SpellsLocal, to_minute, to_second}, declared.text_fault.TextFault.{TextFault}, declared.{text_fault.TextFault.TheVariants.{DateMissing, TimeMissing, SecondMissing, FractionMissing, TooFine, NoSuchDate, NoSuchTime}, form.WrittenDate.{WrittenDate}, form.WrittenTime.{WrittenTime}}}}

-- a text of the value stands at the front, before the rest
pub data Takes {V : Type 0} (Is : List ℕ → V → Type 0) : List ℕ → V → List ℕ → Type 0 where
  takes : {front rest : List ℕ} {value : V} → Is front value → Takes Is (front ++ rest) value rest

pub same_Ok : {A : Type 0} (x y : A) → ◌≡◌ {A = Result A TextFault} (Ok x) (Ok y) → x ≡ y
same_Ok x y e = ap (λ r. result_unwrap_or r x) e

pub ok_not_err : {A : Type 0} (x : A) (fault : TextFault) → ◌≡◌ {A = Result A TextFault} (Ok x) (Err fault) → ⊥
ok_not_err x fault e = absurd cc

pub bind_ok : {A B : Type 0} (f : A → Result B TextFault) (r : Result A TextFault) (y : B) → (r >>= f) ≡ Ok y
    → (x : A) × (r ≡ Ok x) × (f x ≡ Ok y)
bind_ok f (Ok x) y e = (x, refl, e)
bind_ok f (Err fault) y e = absurd cc

pub wanted : {A : Type 0} (o : Option A) (fault : TextFault) (x : A) → ok_or o fault ≡ Ok x → o ≡ Some x
wanted None fault x e = absurd cc
wanted (Some z) fault x e = ap Some (same_Ok z x e)

pub chosen : {A : Type 0} (b : Bool) (x y z : A) → cond b x y ≡ z → ((b ≡ true) × (x ≡ z)) ⊎ ((b ≡ false) × (y ≡ z))
chosen true x y z e = inl (refl, e)
chosen false x y z e = inr (refl, e)

-- the first of two answers where only it is one
pub passed : {A : Type 0} (b : Bool) (x : Result A TextFault) (fault : TextFault) (z : A) → cond b x (Err fault) ≡ Ok z → (b ≡ true) × (x ≡ Ok z)
passed true x fault z e = (refl, e)
passed false x fault z e = absurd cc

pub passed_over : {A : Type 0} (b : Bool) (x : Result A TextFault) (fault : TextFault) (z : A) → cond b (Err fault) x ≡ Ok z → (b ≡ false) × (x ≡ Ok z)
passed_over true x fault z e = absurd cc
passed_over false x fault z e = (refl, e)

mark_found : (mark : ℕ) (text rest : List ℕ) → after_mark mark text ≡ Some rest → text ≡ mark ∷ rest
mark_found mark [] rest e = absurd cc
mark_found mark (c ∷ text) rest e =
    let both = cond_some (nat_eq c mark) text rest e in
    let same = eqb-true c mark both.0 in
    cc

-- a text with a mark at its front, or another
pub marked : {B : Type 0} (f : List ℕ → B) (mark : ℕ) (text : List ℕ) (d y : B) → option_map_or f (after_mark mark text) d ≡ y
    → ((rest : List ℕ) × (text ≡ mark ∷ rest) × (f rest ≡ y)) ⊎ ((after_mark mark text ≡ None) × (d ≡ y))
marked f mark text d y e = by_mark (after_mark mark text) refl e
  where
    by_mark : (r : Option (List ℕ)) → after_mark mark text ≡ r → option_map_or f r d ≡ y
        → ((rest : List ℕ) × (text ≡ mark ∷ rest) × (f rest ≡ y)) ⊎ ((after_mark mark text ≡ None) × (d ≡ y))
    by_mark (Some rest) is e = inl (rest, mark_found mark text rest is, e)
    by_mark None is e = inr (is, e)

digit_found : (text : List ℕ) (y : ℕ × List ℕ) → digit_at text ≡ Some y → (text ≡ (48 + y.0) ∷ y.1) × (y.0 < 10)
unfolding digit_at
digit_found [] y e = absurd (none-some y e)
digit_found (c ∷ rest) y e =
    let both = cond_some (is_ascii_digit c) (c - 48, rest) y e in
    let value : c - 48 ≡ y.0 = ap (λ p. p.0) both.1 in
    let kept : rest ≡ y.1 = ap (λ p. p.1) both.1 in
    let same : c ≡ 48 + y.0 = grind (arith, nat_tests, both.0, value) in
    let small : y.0 < 10 = grind (arith, nat_tests, both.0, value) in
    (ap (λ d. d ∷ rest) same ∙ ap (λ r. (48 + y.0) ∷ r) kept, small)

two_found : (text : List ℕ) (y : ℕ × List ℕ) → two_at text ≡ Some y → (text ≡ two_digits y.0 ++ y.1) × (y.0 < 100)
unfolding two_at
two_found text y e =
    let t = bind_some _ (digit_at text) y e in
    let o = bind_some _ (digit_at t.0.1) y t.2 in
    let tens = digit_found text t.0 t.1 in
    let ones = digit_found t.0.1 o.0 o.1 in
    let value : 10 * t.0.0 + o.0.0 ≡ y.0 = ap (λ p. p.0) (same_Some _ y o.2) in
    let rest : o.0.1 ≡ y.1 = ap (λ p. p.1) (same_Some _ y o.2) in
    let first : 48 + t.0.0 ≡ 48 + y.0 / 10 % 10 = omega (arith, value, tens.1, ones.1) in
    let second : 48 + o.0.0 ≡ 48 + y.0 / 1 % 10 = omega (arith, value, tens.1, ones.1) in (
      tens.0 ∙ ap (λ l. (48 + t.0.0) ∷ l) (ones.0 ∙ ap (λ c. c ∷ o.0.1) second ∙ ap (λ l. (48 + y.0 / 1 % 10) ∷ l) rest)
          ∙ ap (λ c. c ∷ ((48 + y.0 / 1 % 10) ∷ y.1)) first,
      omega (arith, value, tens.1, ones.1),
    )

four_found : (text : List ℕ) (y : ℕ × List ℕ) → four_at text ≡ Some y → (text ≡ four_digits y.0 ++ y.1) × (y.0 < 10000)
unfolding four_at
four_found text y e =
    let f = bind_some _ (two_at text) y e in
    let b = bind_some _ (two_at f.0.1) y f.2 in
    let front = two_found text f.0 f.1 in
    let back = two_found f.0.1 b.0 b.1 in
    let value : 100 * f.0.0 + b.0.0 ≡ y.0 = ap (λ p. p.0) (same_Some _ y b.2) in
    let rest : b.0.1 ≡ y.1 = ap (λ p. p.1) (same_Some _ y b.2) in
    let first : f.0.0 ≡ y.0 / 100 = omega (arith, value, front.1, back.1) in
    let second : b.0.0 ≡ y.0 % 100 = omega (arith, value, front.1, back.1) in (
      front.0 ∙ ap (λ l. two_digits f.0.0 ++ l) (back.0 ∙ ap (λ l. two_digits b.0.0 ++ l) rest ∙ ap (λ n. two_digits n ++ y.1) second)
          ∙ ap (λ n. two_digits n ++ (two_digits (y.0 % 100) ++ y.1)) first ∙ ap (λ l. l ++ y.1) (sym (four_digits-halves y.0)),
      omega (arith, value, front.1, back.1),
    )

date_built : {text p q r s rest : List ℕ} {y m d : ℕ} → text ≡ four_digits y ++ p → p ≡ 45 ∷ q → q ≡ two_digits m ++ r → r ≡ 45 ∷ s
    → s ≡ two_digits d ++ rest → y < 10000 → m < 100 → d < 100 → Takes SpellsDate text (record { year = y; month = m; day = d }) rest
date_built e f g h i years months days = rw (e, f, g, h, i) (takes (date years months days))

pub takes_as : {V : Type 0} {Is : List ℕ → V → Type 0} {text : List ℕ} {x y : V × List ℕ} → Some x ≡ Some y → Takes Is text x.0 x.1
    → Takes Is text y.0 y.1
takes_as {V} {Is} {text} {x} {y} e t = subst (λ (p : V × List ℕ). Takes Is text p.0 p.1) (same_Some x y e) t

date_found : (text : List ℕ) (y : WrittenDate × List ℕ) → date_at text ≡ Some y → Takes SpellsDate text y.0 y.1
unfolding date_at
date_found text y e =
    let a = bind_some _ (four_at text) y e in
    let p = bind_some _ (after_mark 45 a.0.1) y a.2 in
    let b = bind_some _ (two_at p.0) y p.2 in
    let q = bind_some _ (after_mark 45 b.0.1) y b.2 in
    let c = bind_some _ (two_at q.0) y q.2 in
    let years = four_found text a.0 a.1 in
    let months = two_found p.0 b.0 b.1 in
    let days = two_found q.0 c.0 c.1 in
    takes_as c.2 (date_built years.0 (mark_found 45 a.0.1 p.0 p.1) months.0 (mark_found 45 b.0.1 q.0 q.1) days.0 years.1 months.1 days.1)

minute_built : {text p q rest : List ℕ} {h m : ℕ} → text ≡ two_digits h ++ p → p ≡ 58 ∷ q → q ≡ two_digits m ++ rest → h < 100 → m < 100
    → Takes SpellsMinute text (record { hour = h; minute = m; second = 0; nanosecond = 0 }) rest
minute_built e f g hours minutes = rw (e, f, g) (takes (minute hours minutes))

pub minute_found : (text : List ℕ) (y : (ℕ × ℕ) × List ℕ) → minute_at text ≡ Some y
    → Takes SpellsMinute text (record { hour = y.0.0; minute = y.0.1; second = 0; nanosecond = 0 }) y.1
unfolding minute_at
minute_found text y e =
    let a = bind_some _ (two_at text) y e in
    let p = bind_some _ (after_mark 58 a.0.1) y a.2 in
    let b = bind_some _ (two_at p.0) y p.2 in
    let hours = two_found text a.0 a.1 in
    let minutes = two_found p.0 b.0 b.1 in
    subst (λ (z : (ℕ × ℕ) × List ℕ). Takes SpellsMinute text (record { hour = z.0.0; minute = z.0.1; second = 0; nanosecond = 0 }) z.1)
    (same_Some _ y b.2) (minute_built hours.0 (mark_found 58 a.0.1 p.0 p.1) minutes.0 hours.1 minutes.1)

separator_found : (text rest : List ℕ) → separator_at text ≡ Some rest → (c : ℕ) × (text ≡ c ∷ rest) × (is_separator c ≡ true)
separator_found [] rest e = absurd (none-some rest e)
separator_found (c ∷ text) rest e =
    let both = cond_some (is_separator c) text rest e in
    (c, ap (λ l. c ∷ l) both.1, both.0)

-- a date and a time stand at the front, before the rest
pub data TakesFront : List ℕ → WrittenDate → WrittenTime → List ℕ → Type 0 where
  takes_front : {a b rest : List ℕ} {d : WrittenDate} {t : WrittenTime} (c : ℕ) → SpellsDate a d → is_separator c ≡ true → SpellsMinute b t →
      TakesFront (a ++ (c ∷ (b ++ rest))) d t rest

front_built : {text p q rest : List ℕ} {d : WrittenDate} {t : WrittenTime} (c : ℕ) → Takes SpellsDate text d p → p ≡ c ∷ q → is_separator c ≡ true
    → Takes SpellsMinute q t rest → TakesFront text d t rest
front_built c (takes dated) e mark (takes timed) = rw e (takes_front c dated mark timed)

pub front_found : (text : List ℕ) (y : (WrittenDate × WrittenTime) × List ℕ) → front_at text ≡ Ok y → TakesFront text y.0.0 y.0.1 y.1
unfolding front_at
front_found text y e =
    let d = bind_ok _ (ok_or (date_at text) DateMissing) y e in
    let s = bind_ok _ (ok_or (separator_at d.0.1) TimeMissing) y d.2 in
    let m = bind_ok _ (ok_or (minute_at s.0) (time_cause s.0)) y s.2 in
    let mark = separator_found d.0.1 s.0 (wanted _ _ s.0 s.1) in
    subst (λ (z : (WrittenDate × WrittenTime) × List ℕ). TakesFront text z.0.0 z.0.1 z.1) (same_Ok _ y m.2)
    (front_built mark.0 (date_found text d.0 (wanted _ _ d.0 d.1)) mark.1 mark.2 (minute_found s.0 m.0 (wanted _ _ m.0 m.1)))

digits_found : (text : List ℕ) (y : ℕ × List ℕ) → digits_at text ≡ Ok y → Takes SpellsFraction (46 ∷ text) y.0 y.1
unfolding digits_at
digits_found text y e =
    let some = passed_over (nat_eq (length (run_of text)) 0) _ FractionMissing y e in
    let most = passed_over (nat_lt 9 (length (run_of text))) _ TooFine y some.1 in
    let are : AreFraction (run_of text) = record {
      some = grind (arith, nat_tests, some.0);
      most = grind (arith, nat_tests, most.0);
      digits = run_passes text;
    } in
    subst (λ (z : ℕ × List ℕ). Takes SpellsFraction (46 ∷ text) z.0 z.1) (same_Ok _ y most.1)
    (subst (λ t. Takes SpellsFraction (46 ∷ t) (fraction_of (run_of text)) (after_run text))
    (take-append-drop (prefix_len is_ascii_digit text) text) (takes (digits are)))

pub fraction_found : (text : List ℕ) (y : ℕ × List ℕ) → fraction_at text ≡ Ok y → Takes SpellsFraction text y.0 y.1
unfolding fraction_at
fraction_found text y e = elim (marked digits_at 46 text (Ok (0, text)) (Ok y) e) [
  | inl found ↦ rw found.1 (digits_found found.0 y found.2)
  | inr other ↦ subst (λ (z : ℕ × List ℕ). Takes SpellsFraction text z.0 z.1) (same_Ok _ y other.1) (takes whole)
]

-- a second and maybe a fraction stand at the front, before the rest
pub data TakesSecond (t : WrittenTime) : List ℕ → WrittenTime → List ℕ → Type 0 where
  takes_second : {b rest : List ℕ} {s n : ℕ} → s < 100 → SpellsFraction b n →
      TakesSecond t (58 ∷ (two_digits s ++ (b ++ rest))) (record { hour = t.hour; minute = t.minute; second = s; nanosecond = n }) rest

second_built : {t : WrittenTime} {text p q rest : List ℕ} {s n : ℕ} → text ≡ 58 ∷ p → p ≡ two_digits s ++ q → s < 100
    → Takes SpellsFraction q n rest → TakesSecond t text (record { hour = t.hour; minute = t.minute; second = s; nanosecond = n }) rest
second_built e f small (takes fraction) = rw (e, f) (takes_second small fraction)

pub seconds_found : (t : WrittenTime) (text : List ℕ) (y : WrittenTime × List ℕ) → seconds_at t text ≡ Ok y → TakesSecond t text y.0 y.1
unfolding seconds_at second_at
seconds_found t text y e =
    let s = bind_ok _ (ok_or _ SecondMissing) y e in
    let f = bind_ok _ (fraction_at s.0.1) y s.2 in
    let m = bind_some _ (after_mark 58 text) s.0 (wanted _ SecondMissing s.0 s.1) in
    let number = two_found m.0 s.0 m.2 in
    subst (λ (z : WrittenTime × List ℕ). TakesSecond t text z.0 z.1) (same_Ok _ y f.2)
    (second_built (mark_found 58 text m.0 m.1) number.0 number.1 (fraction_found s.0.1 f.0 f.1))

pub moment_found : (d : WrittenDate) (t : WrittenTime) (x : ℤ) → moment_in d t ≡ Ok x → Exist d t × (moment d t ≡ x)
unfolding moment_in
moment_found d t x e =
    let real = passed (is_date d) _ NoSuchDate x e in
    let shown = passed (is_time t) (Ok (moment d t)) NoSuchTime x real.1 in
    let date : IsDate (pos d.year) d.month d.day = record {
      first_month = grind (arith, nat_tests, real.0);
      last_month = grind (arith, nat_tests, real.0);
      first_day = grind (arith, nat_tests, real.0);
      last_day = grind (arith, nat_tests, real.0);
    } in
    let time : IsClockTime t.hour t.minute t.second t.nanosecond = record {
      hours = grind (arith, nat_tests, shown.0);
      minutes = grind (arith, nat_tests, shown.0);
      seconds = grind (arith, nat_tests, shown.0);
      nanoseconds = grind (arith, nat_tests, shown.0);
    } in
    (record { date = date; time = time }, same_Ok (moment d t) x shown.1)

-- nothing follows
pub ended_found : {V : Type 0} (fault : TextFault) (y : V × List ℕ) (x : V) → ended fault y ≡ Ok x → (y.1 ≡ []) × (y.0 ≡ x)
ended_found fault y x e =
    let last = passed (nat_eq (length y.1) 0) _ fault x e in
    (nil_from_length y.1 (eqb-true _ 0 last.0), same_Ok y.0 x last.1)

minute_local : {text rest : List ℕ} {d : WrittenDate} {t : WrittenTime} → TakesFront text d t rest → rest ≡ [] → Exist d t → SpellsLocal text (moment d t)
minute_local (takes_front {b = b} c dated mark timed) e exist = rw (e, append-nil b) (to_minute c dated mark timed exist)

pub full_time : {m q rest : List ℕ} {t u : WrittenTime} → SpellsMinute m t → TakesSecond t q u rest → Takes SpellsTime (m ++ q) u rest
full_time {m} timed (takes_second {b} {rest} {s} small fraction) =
    let e : m ++ (58 ∷ (two_digits s ++ (b ++ rest))) ≡ (m ++ (58 ∷ two_digits s) ++ b) ++ rest = simp append_assoc in
    rw e (takes (time timed small fraction))

timed_local : {a q rest : List ℕ} {d : WrittenDate} {u : WrittenTime} (c : ℕ) → SpellsDate a d → is_separator c ≡ true → Takes SpellsTime q u rest
    → rest ≡ [] → Exist d u → SpellsLocal (a ++ (c ∷ q)) (moment d u)
timed_local c dated mark (takes {front = b} full) e exist = rw (e, append-nil b) (to_second c dated mark full exist)

second_local : {text q rest : List ℕ} {d : WrittenDate} {t u : WrittenTime} → TakesFront text d t q → TakesSecond t q u rest → rest ≡ [] → Exist d u
    → SpellsLocal text (moment d u)
second_local (takes_front c dated mark timed) second e exist = timed_local c dated mark (full_time timed second) e exist

pub local_found : (text : List ℕ) (x : ℤ) → local_in text ≡ Ok x → SpellsLocal text x
unfolding local_in
local_found text x e =
    let f = bind_ok _ (front_at text) x e in
    let front = front_found text f.0 f.1 in
    let w = bind_ok _ _ x f.2 in
    let n = bind_ok _ (ended (after_time w.0.1) w.0) x w.2 in
    let last = ended_found (after_time w.0.1) w.0 n.0 n.1 in
    let made = moment_found f.0.0.0 n.0 x n.2 in
    subst (SpellsLocal text) made.1 (elim (marked (λ _. seconds_at f.0.0.1 f.0.1) 58 f.0.1 _ (Ok w.0) w.1) [
      | inl found ↦
          let second = seconds_found f.0.0.1 f.0.1 w.0 found.2 in
          second_local front (subst (λ t. TakesSecond f.0.0.1 f.0.1 t w.0.1) last.1 second) last.0 made.0
      | inr other ↦
          let same = same_Ok _ w.0 other.1 in
          let time : f.0.0.1 ≡ n.0 = ap (λ p. p.0) same ∙ last.1 in
          let rest : f.0.1 ≡ [] = ap (λ p. p.1) same ∙ last.0 in
          subst (λ t. SpellsLocal text (moment f.0.0.0 t)) time
          (minute_local front rest (subst (λ t. Exist f.0.0.0 t) (sym time) made.0))
    ])
