-- Instants that are read are spelled.
use Rattle.std.proofs.Common.{◌≡◌, sym, ap, subst, ◌∙◌, arith, ℕ, ◌^◌, ◌<◌, inl, inr, Bool, true, false, nat_eq, bytes_eq, List, [], ◌∷◌, ◌++◌, length, append_assoc, append-nil, eqb-true, Option, Some, Result, Ok, Err, ok_or, ℤ, codes}
use Rattle.std.proofs.lemmas.{Bool.Decides.{nat_tests}, List.{take-append-drop}, Slice.Eq.{bytes_eq-Decides}, Option.{same_Some, none-some}}
use Rattle.std.specs.{Char.{is_ascii_digit}, List.{prefix_len}, Result.{result_map_both}}
use Rattle.basics.specs.LogicLaws.{map_some}
use Rattle.civil_base.specs.{Instants.{instant_at}, Ranges.{IsInYears, is_in_years}}
use Rattle.zone_words.{proofs.{FoundLemmas.{Takes, takes, TakesFront, takes_front, TakesSecond, same_Ok, bind_ok, wanted, chosen, passed, passed_over, marked, minute_found, front_found, seconds_found, full_time, fraction_found, moment_found, ended_found}, InstantAgainLemmas.{few}, NumberLemmas.{run_passes}}, specs.{Numbers.{is_separator, is_utc, moment, seconds_east, counted}, Pieces.{offset_at, minute_at, run_of, after_run}, Readings.{front_at, seconds_at, fraction_at, moment_in, ended, zoned_at, zoned_in, size_at, count_at, count_in, count_of, counted_in, written_in, instant_cause, instant_in, asked_in, in_years, is_offset}, Spells.{SpellsDate, SpellsMinute, minute, SpellsFraction, SpellsTime, Exist, SpellsOffset, utc, east, west, AreDigits, SpellsInstant, since, before, zoned, SpellsAsked, now, instant}, declared.{text_fault.TextFault.{TextFault}, text_fault.TextFault.TheVariants.{OffsetMissing, CountMissing, Trailing, OffsetRange, OutOfYears}, form.WrittenDate.{WrittenDate}, form.WrittenTime.{WrittenTime}}, declared.form.{WrittenOffset.{WrittenOffset}, WrittenInstant.{WrittenInstant}, WrittenCount.{WrittenCount}}}}

-- a text of the offset stands at the front, where it is less than 24 hours
data TakesOffset : List ℕ → WrittenOffset → List ℕ → Type 0 where
  takes_offset : {text rest : List ℕ} {o : WrittenOffset} → (is_offset o ≡ true → Takes SpellsOffset text o rest) → TakesOffset text o rest

east_built : {text rest : List ℕ} {t : WrittenTime} → Takes SpellsMinute text t rest
    → TakesOffset (43 ∷ text) (record { west = false; hours = t.hour; minutes = t.minute }) rest
east_built (takes (minute {h} {m} a b)) = takes_offset (λ real. takes (east {h = h} {m = m} (grind (arith, nat_tests, real)) (grind (arith, nat_tests, real))))

west_built : {text rest : List ℕ} {t : WrittenTime} → Takes SpellsMinute text t rest
    → TakesOffset (45 ∷ text) (record { west = true; hours = t.hour; minutes = t.minute }) rest
west_built (takes (minute {h} {m} a b)) = takes_offset (λ real. takes (west {h = h} {m = m} (grind (arith, nat_tests, real)) (grind (arith, nat_tests, real))))

offset_as : {text : List ℕ} {x y : WrittenOffset × List ℕ} → x ≡ y → TakesOffset text x.0 x.1 → TakesOffset text y.0 y.1
offset_as {text} e t = subst (λ (p : WrittenOffset × List ℕ). TakesOffset text p.0 p.1) e t

offset_found : (text : List ℕ) (y : WrittenOffset × List ℕ) → offset_at text ≡ Some y → TakesOffset text y.0 y.1
unfolding offset_at
offset_found [] y e = absurd (none-some y e)
offset_found (c ∷ rest) y e = elim (chosen (is_utc c) _ _ (Some y) e) [
  | inl is ↦ offset_as (same_Some _ y is.1) (takes_offset (λ real. takes (utc is.0)))
  | inr other ↦ elim (chosen (nat_eq c 43) _ _ (Some y) other.1) [
    | inl plus ↦
        let m = map_some _ (minute_at rest) y plus.1 in
        offset_as m.2 (rw (eqb-true c 43 plus.0) (east_built (minute_found rest m.0 m.1)))
    | inr more ↦ elim (chosen (nat_eq c 45) _ _ (Some y) more.1) [
      | inl minus ↦
          let m = map_some _ (minute_at rest) y minus.1 in
          offset_as m.2 (rw (eqb-true c 45 minus.0) (west_built (minute_found rest m.0 m.1)))
      | inr none ↦ absurd (none-some y none.1)
    ]
  ]
]

-- the form of RFC 3339 stands at the front, where its offset is less than 24 hours
pub data TakesZoned : List ℕ → WrittenInstant → List ℕ → Type 0 where
  takes_zoned : {a b z rest : List ℕ} {d : WrittenDate} {t : WrittenTime} {o : WrittenOffset} (c : ℕ) → SpellsDate a d → is_separator c ≡ true →
      SpellsTime b t → SpellsOffset z o → TakesZoned ((a ++ (c ∷ b) ++ z) ++ rest) (record { date = d; time = t; offset = o }) rest

zoned_joined : {a q r rest : List ℕ} {d : WrittenDate} {u : WrittenTime} {o : WrittenOffset} (c : ℕ) → SpellsDate a d → is_separator c ≡ true
    → Takes SpellsTime q u r → Takes SpellsOffset r o rest → TakesZoned (a ++ (c ∷ q)) (record { date = d; time = u; offset = o }) rest
zoned_joined {a} c dated mark (takes {front = b} timed) (takes {front = z} {rest} offset) =
    let e : a ++ (c ∷ (b ++ (z ++ rest))) ≡ (a ++ (c ∷ b) ++ z) ++ rest = simp append_assoc in
    rw e (takes_zoned c dated mark timed offset)

zoned_built : {text p q rest : List ℕ} {d : WrittenDate} {t u : WrittenTime} {o : WrittenOffset} → TakesFront text d t p → TakesSecond t p u q
    → TakesOffset q o rest → is_offset o ≡ true → TakesZoned text (record { date = d; time = u; offset = o }) rest
zoned_built (takes_front c dated mark timed) second (takes_offset offset) real = zoned_joined c dated mark (full_time timed second) (offset real)

pub zoned_form_found : (text : List ℕ) (y : WrittenInstant × List ℕ) → zoned_at text ≡ Ok y → is_offset y.0.offset ≡ true → TakesZoned text y.0 y.1
unfolding zoned_at
zoned_form_found text y e =
    let f = bind_ok _ (front_at text) y e in
    let s = bind_ok _ (seconds_at f.0.0.1 f.0.1) y f.2 in
    let o = bind_ok _ (ok_or (offset_at s.0.1) OffsetMissing) y s.2 in
    let offset = offset_found s.0.1 o.0 (wanted _ _ o.0 o.1) in
    subst (λ (z : WrittenInstant × List ℕ). is_offset z.0.offset ≡ true → TakesZoned text z.0 z.1) (same_Ok _ y o.2)
    (zoned_built (front_found text f.0 f.1) (seconds_found f.0.0.1 f.0.1 s.0 s.1) offset)

pub years_found : (t x : ℤ) → in_years t ≡ Ok x → IsInYears t × (t ≡ x)
unfolding in_years
years_found t x e =
    let both = passed (is_in_years t) (Ok t) OutOfYears x e in
    (both.0, same_Ok t x both.1)

-- what a form amounts to
pub record Means (form : WrittenInstant) (x : ℤ) : Type 0 where
  pub exist : Exist form.date form.time
  pub real : is_offset form.offset ≡ true
  pub inside : IsInYears (instant_at (moment form.date form.time) (seconds_east form.offset))
  pub value : instant_at (moment form.date form.time) (seconds_east form.offset) ≡ x

pub zoned_value_found : (form : WrittenInstant) (x : ℤ) → zoned_in form ≡ Ok x → Means form x
unfolding zoned_in
zoned_value_found form x e =
    let m = bind_ok _ (moment_in form.date form.time) x e in
    let made = moment_found form.date form.time m.0 m.1 in
    let o = passed (is_offset form.offset) _ OffsetRange x m.2 in
    let years = years_found (instant_at m.0 (seconds_east form.offset)) x o.1 in
    record {
      exist = made.0;
      real = o.0;
      inside = subst (λ l. IsInYears (instant_at l (seconds_east form.offset))) (sym made.1) years.0;
      value = ap (λ l. instant_at l (seconds_east form.offset)) made.1 ∙ years.1;
    }

zoned_whole : {text rest : List ℕ} {form : WrittenInstant} {x : ℤ} → TakesZoned text form rest → rest ≡ [] → Means form x → SpellsInstant text x
zoned_whole (takes_zoned {a} {b} {z} c dated mark timed offset) e means =
    rw (e, append-nil (a ++ (c ∷ b) ++ z)) (subst (SpellsInstant (a ++ (c ∷ b) ++ z)) means.value (zoned c dated mark timed means.exist offset means.inside))

written_found : (text : List ℕ) (x : ℤ) → written_in text ≡ Ok x → SpellsInstant text x
unfolding written_in
written_found text x e =
    let y = bind_ok _ (zoned_at text) x e in
    let f = bind_ok _ (ended Trailing y.0) x y.2 in
    let last = ended_found Trailing y.0 f.0 f.1 in
    let means = zoned_value_found f.0 x f.2 in
    let form : is_offset y.0.0.offset ≡ true = rw last.1 means.real in
    zoned_whole (subst (λ w. TakesZoned text w y.0.1) last.1 (zoned_form_found text y.0 y.1 form)) last.0 means

-- a count stands at the front, before the rest
pub data TakesCount (back : Bool) : List ℕ → WrittenCount → List ℕ → Type 0 where
  takes_count : {a b rest : List ℕ} {n f : ℕ} → AreDigits a n → SpellsFraction b f →
      TakesCount back (a ++ (b ++ rest)) (record { before = back; seconds = n; nanosecond = f }) rest

count_built : {text a q rest : List ℕ} {n f : ℕ} (back : Bool) → text ≡ a ++ q → AreDigits a n → Takes SpellsFraction q f rest
    → TakesCount back text (record { before = back; seconds = n; nanosecond = f }) rest
count_built back e are (takes fraction) = rw e (takes_count are fraction)

pub size_found : (back : Bool) (text : List ℕ) (y : WrittenCount × List ℕ) → size_at back text ≡ Ok y → y.0.seconds < 10 ^ 25
    → TakesCount back text y.0 y.1
unfolding size_at
size_found back text y e bound =
    let some = passed_over (nat_eq (length (run_of text)) 0) _ CountMissing y e in
    let f = bind_ok _ (fraction_at (after_run text)) y some.1 in
    let same = same_Ok _ y f.2 in
    let number : count_of (run_of text) ≡ y.0.seconds = ap (λ p. p.0.seconds) same in
    let are : AreDigits (run_of text) (count_of (run_of text)) = record {
      some = grind (arith, nat_tests, some.0);
      digits = run_passes text;
      value = omega (arith, number, bound);
    } in
    subst (λ (z : WrittenCount × List ℕ). TakesCount back text z.0 z.1) same
    (count_built back (sym (take-append-drop (prefix_len is_ascii_digit text) text)) are (fraction_found (after_run text) f.0 f.1))

since_whole : {text rest : List ℕ} {form : WrittenCount} {x : ℤ} → TakesCount false text form rest → rest ≡ []
    → IsInYears (counted form.before form.seconds form.nanosecond) → counted form.before form.seconds form.nanosecond ≡ x → SpellsInstant (64 ∷ text) x
since_whole (takes_count {a} {b} are fraction) e inside value =
    rw (e, append-nil b) (subst (SpellsInstant (64 ∷ (a ++ b))) value (since are fraction inside))

before_whole : {text rest : List ℕ} {form : WrittenCount} {x : ℤ} → TakesCount true text form rest → rest ≡ []
    → IsInYears (counted form.before form.seconds form.nanosecond) → counted form.before form.seconds form.nanosecond ≡ x
    → SpellsInstant (64 ∷ (45 ∷ text)) x
before_whole (takes_count {a} {b} are fraction) e inside value =
    rw (e, append-nil b) (subst (SpellsInstant (64 ∷ (45 ∷ (a ++ b)))) value (before are fraction inside))

counted_found : (text : List ℕ) (x : ℤ) → counted_in text ≡ Ok x → SpellsInstant (64 ∷ text) x
unfolding counted_in count_at count_in
counted_found text x e =
    let y = bind_ok _ (count_at text) x e in
    let f = bind_ok _ (ended Trailing y.0) x y.2 in
    let last = ended_found Trailing y.0 f.0 f.1 in
    let years = years_found (counted f.0.before f.0.seconds f.0.nanosecond) x f.2 in
    let bound : y.0.0.seconds < 10 ^ 25 = rw last.1 (few f.0.before f.0.seconds f.0.nanosecond years.0) in
    elim (marked (size_at true) 45 text (size_at false text) (Ok y.0) y.1) [
      | inl found ↦
          rw found.1 (before_whole (subst (λ w. TakesCount true found.0 w y.0.1) last.1 (size_found true found.0 y.0 found.2 bound)) last.0 years.0 years.1)
      | inr other ↦
          since_whole (subst (λ w. TakesCount false text w y.0.1) last.1 (size_found false text y.0 other.1 bound)) last.0 years.0 years.1
    ]

kept : (cause : TextFault → TextFault) (r : Result ℤ TextFault) (x : ℤ) → result_map_both (λ t. t) cause r ≡ Ok x → r ≡ Ok x
kept cause (Ok t) x e = e
kept cause (Err fault) x e = absurd cc

pub instant_found : (text : List ℕ) (x : ℤ) → instant_in text ≡ Ok x → SpellsInstant text x
unfolding instant_in
instant_found text x e = elim (marked counted_in 64 text (result_map_both (λ t. t) (instant_cause text) (written_in text)) (Ok x) e) [
  | inl found ↦ rw found.1 (counted_found found.0 x found.2)
  | inr other ↦ written_found text x (kept (instant_cause text) (written_in text) x other.1)
]

pub asked_found : (text : List ℕ) (x : Option ℤ) → asked_in text ≡ Ok x → SpellsAsked text x
unfolding asked_in
asked_found text x e = elim (chosen (bytes_eq text (codes "now")) _ _ (Ok x) e) [
  | inl is ↦ rw ((bytes_eq-Decides text (codes "now")).0 is.0) (subst (SpellsAsked (codes "now")) (same_Ok _ x is.1) now)
  | inr other ↦
      let t = bind_ok _ (instant_in text) x other.1 in
      subst (SpellsAsked text) (same_Ok _ x t.2) (instant (instant_found text t.0 t.1))
]
