-- What is due of an instant that a zone shows.
use Rattle.std.{proofs.Common.{◌≡◌, ◌++◌, ℕ, ℤ, List, Bool, true, false, not, cond, ap, subst, sym, ◌∙◌, refl}, specs.Prelude.{Ok, Err}}
use Rattle.civil_base.specs.{DateTimes.{instant, local_of, offset_of}, Instants.{local_at}, Ranges.{is_in_years}, declared.offset_date_time.OffsetDateTime.{OffsetDateTime}}
use Rattle.zone_words.specs.declared.answer_form.AnswerForm.{AnswerForm, TheVariants.{People, Rfc3339, Epoch, Json}}
use Rattle.zone_texts.{specs.{Faults.{Due}, Instants.{at_due, instant_text, is_untold, kind_at, shown_due, IsKindFor}, Views.{ZoneView}, declared.fault.ReplyFault.TheVariants.{OutOfYears, Untold}, declared.kind.Kind.{Kind}}, proofs.LocalLemmas.{local_is}}

-- a date-time of a zone at an instant shows the local time there
pub clock_is : (view : ZoneView) (t : ℤ) (d : OffsetDateTime) → instant d ≡ t → offset_of d ≡ view.total t → local_of d ≡ local_at t (view.total t)
clock_is view t d at is = local_is d ∙ (λ i. local_at (at i) (is i))

abbrev decided : Bool → Bool → List ℕ → Due
decided years untold text = cond (not years) (Err OutOfYears) (cond untold (Err Untold) (Ok text))

pub untold_is : (form : AnswerForm) (view : ZoneView) (name : List ℕ) (kind : Kind) (t : ℤ) (d : OffsetDateTime) → instant d ≡ t → offset_of d ≡ view.total t
    → is_in_years (local_at t (view.total t)) ≡ true → is_untold view (local_of d) ≡ true → shown_due form view name kind t ≡ Err Untold
unfolding shown_due
untold_is form view name kind t d at is years untold =
    let past : is_untold view (local_at t (view.total t)) ≡ true = ap (is_untold view) (sym (clock_is view t d at is)) ∙ untold in
    (λ i. decided (years i) (past i) (instant_text form view name kind t (view.total t)))

pub told_is : (form : AnswerForm) (view : ZoneView) (name : List ℕ) (kind : Kind) (t : ℤ) (d : OffsetDateTime) → instant d ≡ t → offset_of d ≡ view.total t
    → is_in_years (local_at t (view.total t)) ≡ true → is_untold view (local_of d) ≡ false
    → shown_due form view name kind t ≡ Ok (instant_text form view name kind (instant d) (offset_of d))
unfolding shown_due
told_is form view name kind t d at is years untold =
    let past : is_untold view (local_at t (view.total t)) ≡ false = ap (is_untold view) (sym (clock_is view t d at is)) ∙ untold in
    (λ i. decided (years i) (past i) (instant_text form view name kind t (view.total t)))
    ∙ sym (λ i. Ok (instant_text form view name kind (at i) (is i)))

-- behind a text, where it is of the form that is asked for
pub text_as : (old : List ℕ) (form own : AnswerForm) (view : ZoneView) (name : List ℕ) (kind : Kind) (d : OffsetDateTime) (x : ℤ) (text : ℤ → List ℕ)
    → x ≡ local_of d → form ≡ own → text (local_at (instant d) (offset_of d)) ≡ instant_text own view name kind (instant d) (offset_of d)
    → old ++ text x ≡ old ++ instant_text form view name kind (instant d) (offset_of d)
text_as old form own view name kind d x text at is same =
    ap (λ y. old ++ text y) (at ∙ local_is d) ∙ ap (λ t. old ++ t) same ∙ ap (λ f. old ++ instant_text f view name kind (instant d) (offset_of d)) (sym is)

same_kind : (form : AnswerForm) (view : ZoneView) (name : List ℕ) (kind wanted : Kind) (t o : ℤ) → IsKindFor form kind wanted
    → instant_text form view name kind t o ≡ instant_text form view name wanted t o
same_kind People view name kind wanted t o h = refl
same_kind Rfc3339 view name kind wanted t o h = refl
same_kind Epoch view name kind wanted t o h = refl
same_kind Json view name kind wanted t o h = ap (λ k. instant_text Json view name k t o) h

-- where the form tells the kind, that of the local time there
pub at_is : (form : AnswerForm) (view : ZoneView) (name : List ℕ) (kind : Kind) (t : ℤ) (d : OffsetDateTime) → instant d ≡ t → offset_of d ≡ view.total t
    → IsKindFor form kind (kind_at view (local_of d)) → shown_due form view name kind t ≡ at_due form view name t
unfolding shown_due
at_is form view name kind t d at is for =
    ap (λ text. decided (is_in_years (local_at t (view.total t))) (is_untold view (local_at t (view.total t))) text)
    (same_kind form view name kind (kind_at view (local_of d)) t (view.total t) for)
    ∙ ap (λ x. shown_due form view name (kind_at view x) t) (clock_is view t d at is)

pub kind_is : (form : AnswerForm) (view : ZoneView) (name : List ℕ) (kind : Kind) (t : ℤ) (d : OffsetDateTime) (local : ℤ) → instant d ≡ t → offset_of d ≡ view.total t
    → local ≡ local_of d → IsKindFor form kind (kind_at view local) → shown_due form view name kind t ≡ at_due form view name t
kind_is form view name kind t d local at is same kinds = at_is form view name kind t d at is (subst (λ x. IsKindFor form kind (kind_at view x)) same kinds)
