use Rattle.std.{proofs.Common.{◌≡◌, ℕ, ◌-◌, ◌<◌, ◌≤◌, false, List, [], ◌∷◌, length, map, take, drop, slice_index_or, subst, ap, sym, ◌∙◌, arith, ℤ, Result}, proofs.lemmas.List.{take_all}, specs.Prelude.{Ok, Err}, specs.Result.{IfErr, OnOk}}
use Rattle.zone_words.specs.declared.answer_form.AnswerForm.{AnswerForm}
use Rattle.civil_base.specs.{DateTimes.{instant}, declared.offset_date_time.OffsetDateTime.{OffsetDateTime}}
use Rattle.zone_texts.specs.{Faults.{Due, behind, IsFaultOf}, Instants.{is_untold}, Readings.{convert_due, first_due, read_due}, Skips.{gap_due}, Views.{ZoneView}, declared.fault.ReplyFault.{ReplyFault}}
use Rattle.zone_texts.proofs.readings.add_read.Goals as goal

-- what is due where the local time isn't past the last year
told : (form : AnswerForm) (from to : ZoneView) (from_name to_name separator : List ℕ) (x : ℤ) (ts : List ℤ) → is_untold from x ≡ false
    → ts ≡ from.readings x → convert_due form from from_name to to_name separator x ≡ read_due form from from_name to to_name separator x ts
unfolding convert_due
told form from to from_name to_name separator x ts in_time are =
    rw in_time (ap (read_due form from from_name to to_name separator x) (sym are))

-- a list by its first item and the others
opened : (dates : List OffsetDateTime) (first : OffsetDateTime) → 1 ≤ length dates → first ≡ slice_index_or dates 0 first
    → first ∷ take (length dates - 1) (drop 1 dates) ≡ dates
opened [] first l is = absurd (omega arith)
opened (date ∷ dates) first l is =
    let others : length (date ∷ dates) - 1 ≡ length dates = omega arith in
    (λ i. is i ∷ take (others i) dates) ∙ ap (λ ds. date ∷ ds) (take_all (length dates) dates (omega arith))

-- what is due under another name
put_ok : (r : Result (Unit {0}) ReplyFault) (old new : List ℕ) (d due : Due) → due ≡ d → OnOk r (let x : Due = Ok new in x ≡ behind old d)
    → OnOk r (let x : Due = Ok new in x ≡ behind old due)
put_ok (Ok x) old new d due is e = e ∙ ap (behind old) (sym is)
put_ok (Err f) old new d due is e = tt

put_err : (r : Result (Unit {0}) ReplyFault) (d due : Due) → due ≡ d → IfErr r (IsFaultOf d) → IfErr r (IsFaultOf due)
put_err r d due is e = let P : Due → Type 0 = λ x. IfErr r (IsFaultOf x) in subst P (sym is) e

-- what is due of a first instant and others
led : (form : AnswerForm) (from to : ZoneView) (from_name to_name separator : List ℕ) (x : ℤ) (dates items : List OffsetDateTime) (first : OffsetDateTime)
    → is_untold from x ≡ false → dates ≡ items → map instant items ≡ from.readings x → 1 ≤ length dates → first ≡ slice_index_or dates 0 first
    → convert_due form from from_name to to_name separator x
    ≡ first_due form to to_name separator (instant first) (map instant (take (length dates - 1) (drop 1 dates)))
led form from to from_name to_name separator x dates items first in_time same are l is =
    told form from to from_name to_name separator x (instant first ∷ map instant (take (length dates - 1) (drop 1 dates))) in_time
    (ap (map instant) (opened dates first l is ∙ same) ∙ are)

-- what is due of none
skipped : (form : AnswerForm) (from to : ZoneView) (from_name to_name separator : List ℕ) (x : ℤ) (dates items : List OffsetDateTime)
    → is_untold from x ≡ false → dates ≡ items → map instant items ≡ from.readings x → length dates < 1
    → convert_due form from from_name to to_name separator x ≡ gap_due form from from_name x
skipped form from to from_name to_name separator x [] items in_time same are l =
    told form from to from_name to_name separator x [] in_time (ap (map instant) same ∙ are)
skipped form from to from_name to_name separator x (date ∷ dates) items in_time same are l = absurd (omega arith)

pub returns-in-len1-up-clause-ok : goal.returns-in-len1-up-clause-ok
returns-in-len1-up-clause-ok g c =
    put_ok c.add_first.result c.args.into.now.items c.add_first.new.into.items _ _
    (led c.args.style.now.form (g.F.ReplyZone.view c.args.from.now) (g.T.ReplyZone.view c.args.to.now) c.args.from_name.now c.args.style.now.name.now
    c.args.separator.now c.args.local.now c.as_slice.result.now c.in_ok-dates.dates.items c.first-item.result (sym c.is_untold.ensures ∙ c.if-is_untold.false)
    c.as_slice.ensures.value c.in_ok-dates.ensures c.in-len1-up.len_at_least c.first-item.is) c.add_first.ensures.ok

pub returns-in-len1-up-clause-err : goal.returns-in-len1-up-clause-err
returns-in-len1-up-clause-err g c =
    put_err c.add_first.result _ _
    (led c.args.style.now.form (g.F.ReplyZone.view c.args.from.now) (g.T.ReplyZone.view c.args.to.now) c.args.from_name.now c.args.style.now.name.now
    c.args.separator.now c.args.local.now c.as_slice.result.now c.in_ok-dates.dates.items c.first-item.result (sym c.is_untold.ensures ∙ c.if-is_untold.false)
    c.as_slice.ensures.value c.in_ok-dates.ensures c.in-len1-up.len_at_least c.first-item.is) c.add_first.ensures.err

pub returns-clause-ok : goal.returns-clause-ok
returns-clause-ok g c =
    put_ok c.add_gap.result c.args.into.now.items c.add_gap.new.into.items _ _
    (skipped c.args.style.now.form (g.F.ReplyZone.view c.args.from.now) (g.T.ReplyZone.view c.args.to.now) c.args.from_name.now c.args.style.now.name.now
    c.args.separator.now c.args.local.now c.as_slice.result.now c.in_ok-dates.dates.items (sym c.is_untold.ensures ∙ c.if-is_untold.false)
    c.as_slice.ensures.value c.in_ok-dates.ensures c.in-empty.len_below) c.add_gap.ensures.ok

pub returns-clause-err : goal.returns-clause-err
returns-clause-err g c =
    put_err c.add_gap.result _ _
    (skipped c.args.style.now.form (g.F.ReplyZone.view c.args.from.now) (g.T.ReplyZone.view c.args.to.now) c.args.from_name.now c.args.style.now.name.now
    c.args.separator.now c.args.local.now c.as_slice.result.now c.in_ok-dates.dates.items (sym c.is_untold.ensures ∙ c.if-is_untold.false)
    c.as_slice.ensures.value c.in_ok-dates.ensures c.in-empty.len_below) c.add_gap.ensures.err
