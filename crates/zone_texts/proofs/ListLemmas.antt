-- The lines of changes.
use borrow.Author.Rules.{to_z-of_z_to}
use Rattle.std.{proofs.Common.{◌≡◌, ℕ, ℤ, pos, ◌-ℤ◌, to_z, of_z, w64, SFits, List, [], ◌∷◌, ◌++◌, Bool, ◌&&◌, true, false, cond, refl, ap, sym, ◌∙◌}, specs.Prelude.{Ok, Err}}
use Rattle.civil_base.specs.{DateTimes.{instant, local_of, offset_of}, Instants.{nanos_of}, declared.offset_date_time.OffsetDateTime.{OffsetDateTime}}
use Rattle.zone_words.specs.declared.answer_form.AnswerForm.{AnswerForm}
use Rattle.zone_texts.{specs.{Faults.{Due, each_due}, Instants.{is_untold}, Lists.{change_due, change_text, list_due, second_from}, Skips.{has_dates}, Views.{InForce, ZoneView}, declared.fault.ReplyFault.TheVariants.{OutOfYears, Untold}}, proofs.LocalLemmas.{at_utc}}

abbrev line_if : Bool → List ℕ → Due
line_if has text = cond has (Ok (text ++ 10 ∷ [])) (Err OutOfYears)

pub change_is : (form : AnswerForm) (view : ZoneView) (name : List ℕ) (second t : ℤ) (old new : InForce) → old ≡ view.force (second -ℤ pos 1)
    → new ≡ view.force second → t ≡ nanos_of second → true ≡ has_dates second old.offset → true ≡ has_dates second new.offset
    → change_due form view name second ≡ Ok (change_text form name t old new ++ 10 ∷ [])
unfolding change_due
change_is form view name second t old new up_to from at before after =
    (λ i. line_if (has_dates second (sym up_to i).offset && has_dates second (sym from i).offset)
    (change_text form name (sym at i) (sym up_to i) (sym from i)))
    ∙ (λ i. line_if (sym before i && sym after i) (change_text form name t old new))

-- a date of it lies outside the years
no_line : (first : Bool) (text : List ℕ) → line_if (first && false) text ≡ Err OutOfYears
no_line true text = refl
no_line false text = refl

pub old_out : (form : AnswerForm) (view : ZoneView) (name : List ℕ) (second : ℤ) (old : InForce) → old ≡ view.force (second -ℤ pos 1)
    → false ≡ has_dates second old.offset → change_due form view name second ≡ Err OutOfYears
unfolding change_due
old_out form view name second old up_to out =
    let text = change_text form name (nanos_of second) (view.force (second -ℤ pos 1)) (view.force second) in
    let after = has_dates second (view.force second).offset in
    (λ i. line_if (has_dates second (sym up_to i).offset && after) text) ∙ (λ i. line_if (sym out i && after) text)

pub new_out : (form : AnswerForm) (view : ZoneView) (name : List ℕ) (second : ℤ) (new : InForce) → new ≡ view.force second
    → false ≡ has_dates second new.offset → change_due form view name second ≡ Err OutOfYears
unfolding change_due
new_out form view name second new from out =
    let text = change_text form name (nanos_of second) (view.force (second -ℤ pos 1)) (view.force second) in
    let before = has_dates second (view.force (second -ℤ pos 1)).offset in
    (λ i. line_if (before && has_dates second (sym from i).offset) text) ∙ (λ i. line_if (before && sym out i) text) ∙ no_line before text

-- the second from which a window at UTC goes on, as 64 bits hold it
pub second_is : (value : OffsetDateTime) (x second : ℤ) → local_of value ≡ x → offset_of value ≡ pos 0 → SFits w64 second
    → second ≡ second_from (instant value) → to_z w64 (of_z w64 second) ≡ second_from x
second_is value x second local offset fits is = to_z-of_z_to w64 second _ fits (is ∙ ap second_from (at_utc value x local offset))

-- the lines of a window
pub list_is : (form : AnswerForm) (view : ZoneView) (name : List ℕ) (from to : ℤ) (changes : List ℤ) → is_untold view to ≡ false
    → changes ≡ view.changes (second_from from) (second_from to) → each_due (change_due form view name) changes ≡ list_due form view name from to
unfolding list_due
list_is form view name from to changes told are =
    ap (each_due (change_due form view name)) are
    ∙ (λ i. cond (sym told i) (Err Untold) (each_due (change_due form view name) (view.changes (second_from from) (second_from to))))
