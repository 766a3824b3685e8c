-- Instants and local times, turned to the years that are kept.
use Rattle.std.proofs.{Common.{◌≡◌, arith, ℕ, zero, suc, ◌+◌, ◌*◌, ◌%◌, ◌<◌, ℤ, pos, ◌+ℤ◌, ◌-ℤ◌, ◌*ℤ◌, ◌≤ℤ◌, int_le, int_lt, if◌then◌else◌, true, false, refl, sym, ap, ◌∙◌, inl, inr}, lemmas.Bool.{and_parts, cases_Bool}}
use Rattle.basics.specs.{ComparisonLaws.{lt_fail, lt_from_fail}, SignedLaws.{signed}}
use Rattle.civil_base.specs.{Clock.{nanos_per_day}, Layout.{day_part}}
use Rattle.tz_ever.specs.{Recurrences.{brought_on, is_kept, turned}, Seam.{brought_back, cycles_past, next_seam_day, seam, seam_day}, SeamLaws.{ArePast, back_by, cycles_past-are}}
use Rattle.tz_ever.specs.declared.{recurrence.Recurrence.{Recurrence}, recurrence.Recurrence.TheVariants.{Never, Later, Always}}
use Rattle.tz_ever.proofs.SeamLemmas.{at_time, day_back, is_begun, is_early, is_late}

-- ---- 31 cycles later
past_more : (x : ℤ) (k : ℕ) → seam ≤ℤ x → ArePast x k → ArePast (x +ℤ pos 391306204800000000000) (k + 31)
past_more x zero from past = record {
  begun = λ _. omega (arith, signed, from);
  not_over = let not_over = past.not_over in omega (arith, signed, not_over);
}
past_more x (suc k) from past = record {
  begun = λ _. let begun = past.begun (omega arith) in omega (arith, signed, begun);
  not_over = let not_over = past.not_over in omega (arith, signed, not_over);
}

same_there : (x : ℤ) (k : ℕ) → x -ℤ pos (k * 12622780800000000000) ≡ (x +ℤ pos 391306204800000000000) -ℤ pos ((k + 31) * 12622780800000000000)
same_there x k = omega (arith, signed)

same_back : (x : ℤ) → seam ≤ℤ x → brought_back x ≡ brought_back (x +ℤ pos 391306204800000000000)
same_back x from =
    let k = cycles_past x in
    let past = cycles_past-are x in
    back_by x k past ∙ same_there x k ∙ sym (back_by (x +ℤ pos 391306204800000000000) (k + 31) (past_more x k from past))

pub stays : (x : ℤ) → seam ≤ℤ x → brought_on x ≡ x
unfolding brought_on
stays x from = ap (λ b. if b then x +ℤ pos 391306204800000000000 else x) (lt_fail x seam from)

goes_on : (x : ℤ) → int_lt x seam ≡ true → brought_on x ≡ x +ℤ pos 391306204800000000000
unfolding brought_on
goes_on x before = ap (λ b. if b then x +ℤ pos 391306204800000000000 else x) before

-- so that a cycle that comes again always is one that comes again later, moved
pub always_is : (x : ℤ) → turned Always x ≡ brought_back (x +ℤ pos 391306204800000000000)
unfolding turned
always_is x = elim (cases_Bool (int_lt x seam)) [
  | inl before ↦ ap brought_back (goes_on x before)
  | inr after ↦ let from = lt_from_fail x seam after in ap brought_back (stays x from) ∙ same_back x from
]

-- ---- days
day_later : (d : ℤ) → d *ℤ pos nanos_per_day +ℤ pos 391306204800000000000 ≡ (d +ℤ pos 4529007) *ℤ pos nanos_per_day
day_later d = omega (arith, signed)

time_later : (d : ℤ) (t : ℕ) → (d +ℤ pos 4529007) *ℤ pos nanos_per_day +ℤ pos t ≡ (d *ℤ pos nanos_per_day +ℤ pos t) +ℤ pos 391306204800000000000
time_later d t = omega (arith, signed)

pub day_turned : (d : ℤ) (a : ℕ) → (d +ℤ pos 4529007) -ℤ seam_day ≡ pos a
    → (seam_day +ℤ pos (a % 146097)) *ℤ pos nanos_per_day ≡ turned Always (d *ℤ pos nanos_per_day)
day_turned d a e =
    day_back (d +ℤ pos 4529007) a e ∙ ap brought_back (sym (day_later d)) ∙ sym (always_is (d *ℤ pos nanos_per_day))

-- the time of day stays
pub time_turned : (d : ℤ) (t : ℕ) → t < nanos_per_day
    → turned Always (d *ℤ pos nanos_per_day) +ℤ pos t ≡ turned Always (d *ℤ pos nanos_per_day +ℤ pos t)
time_turned d t h =
    ap (λ z. z +ℤ pos t) (always_is (d *ℤ pos nanos_per_day) ∙ ap brought_back (day_later d))
    ∙ at_time (d +ℤ pos 4529007) t h ∙ ap brought_back (time_later d t) ∙ sym (always_is (d *ℤ pos nanos_per_day +ℤ pos t))

-- ---- the test
pub kept_is : (recurrence : Recurrence) (x : ℤ) → is_kept recurrence (day_part x) ≡ true → turned recurrence x ≡ x
unfolding turned
kept_is Never x h = refl
kept_is Later x h = is_early x h
kept_is Always x h =
    let both = and_parts (int_le seam_day (day_part x)) (int_lt (day_part x) next_seam_day) h in
    ap brought_back (stays x (is_begun x both.0)) ∙ is_early x both.1

pub other_is : (recurrence : Recurrence) (x : ℤ) → is_kept recurrence (day_part x) ≡ false → turned recurrence x ≡ turned Always x
unfolding turned
other_is Never x h = cc
other_is Later x h = ap brought_back (sym (stays x (is_late x h)))
other_is Always x h = refl
