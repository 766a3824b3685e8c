use Rattle.std.proofs.{Common.{◌≡◌, ℕ, ◌*◌, false, Option, Result, Ok, Err, ℤ, pos, ◌+ℤ◌, ◌<ℤ◌, int_le, to_z, of_z, to_z-of_z, FitsSigned, w32, w64, Decides, rules, subst, ap, sym, ◌∙◌, arith}, lemmas.Bool.{false≢true}}
use Rattle.std.proofs.lemmas.Bool.Decides.{Decides-and, Decides-like, same_from_decides}
use Rattle.std.specs.{Option.{IfSome}, Result.{IfOk, is_ok, result_ok}}
use Rattle.basics.specs.{ComparisonLaws.{le_from_pass, le_pass}, SignedLaws.{signed_casts}}
use Rattle.civil_base.specs.{Julian.{day_of_julian, julian_of}, Ranges.{IsDay, first_day, last_day}}
use Rattle.zone_texts.specs.Days.{day_after, is_dated}
use Rattle.zone_texts.proofs.days.day_after.Goals as goal

dated : (day : ℤ) → Decides (is_dated day) (IsDay day)
dated day =
    Decides-like (is_dated day) (λ p. record { first = p.0; last = p.1 }) (λ h. (h.first, h.last))
    (Decides-and (int_le first_day day) (int_le day last_day) (le_from_pass first_day day, le_pass first_day day)
    (le_from_pass day last_day, le_pass day last_day))

-- the number that the code computes is the Julian day of the day so far on
number : (day j f p : ℤ) (n : ℕ) → FitsSigned w32 j → j ≡ julian_of day → f ≡ to_z w32 (of_z w32 j) → p ≡ pos n → p <ℤ pos 281474976710656
    → to_z w64 (of_z w64 (to_z w64 (of_z w64 f) +ℤ to_z w64 (of_z w64 p))) ≡ julian_of (day +ℤ pos n)
number day j f p n fits julian first past bound = omega (arith, signed_casts)

day_back : (day : ℤ) → day_of_julian (julian_of day) ≡ day
day_back day = omega (arith, signed_casts)

fits_day : (day : ℤ) → IsDay day → FitsSigned w32 (julian_of day)
fits_day day h = omega (arith, signed_casts, h.first, h.last)

told : {E : Type 0} → (r : Result ℤ E) (a b : ℤ) → a ≡ b → IfOk r (λ x. x ≡ a) → IfSome (result_ok r) (λ x. x ≡ b)
told (Ok x) a b e is = is ∙ e
told (Err f) a b e is = tt

pub returns-in-Ok : goal.returns-in-Ok
returns-in-Ok c =
    let day = day_after c.args.first c.args.step c.args.past in
    let r = c.from_julian_day.result in
    let is = number c.args.first c.to_julian_day.result c.from.result c.days_past.result (c.args.past * c.args.step) (search rules)
    c.to_julian_day.ensures c.from.ensures c.days_past.ensures.value c.days_past.ensures.bound in
    let read = ap (λ j. to_z w32 (of_z w32 j)) c.in-Ok.ensures.1 ∙ to_z-of_z c.in-Ok.ensures.0 ∙ is in
    let back = ap day_of_julian read ∙ day_back day in
    let D : ℤ → Type 0 = λ d. Decides (is_ok r) (IsDay d) in
    let V : Option ℤ → Type 0 = λ o. IfSome o (λ date. date ≡ day) in
    record {
      dated = c.ok.ensures.variant ∙ same_from_decides (is_ok r) (is_dated day) (subst D back c.from_julian_day.ensures.accepts) (dated day);
      value = subst V (sym c.ok.ensures.value) (told r _ day back c.from_julian_day.ensures.value);
    }

pub returns-in-Err-clause-dated : goal.returns-in-Err-clause-dated
returns-in-Err-clause-dated c =
    let day = day_after c.args.first c.args.step c.args.past in
    let is = number c.args.first c.to_julian_day.result c.from.result c.days_past.result (c.args.past * c.args.step) (search rules)
    c.to_julian_day.ensures c.from.ensures c.days_past.ensures.value c.days_past.ensures.bound in
    let F : ℤ → Type 0 = FitsSigned w32 in
    same_from_decides false (is_dated day)
    ((λ e. absurd (false≢true e)), (λ h. absurd (c.in-Err.ensures (subst F (sym is) (fits_day day h))))) (dated day)
