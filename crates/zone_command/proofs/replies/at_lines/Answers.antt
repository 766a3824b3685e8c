use Rattle.std.proofs.{Common.{◌≡◌, ℕ, ◌+◌, ◌<◌, List, length, map, drop, slice_index_or, ℤ, Ok, Err, ap, sym, ◌∙◌}, lemmas.List.{at_drop_all, at_drop_more}}
use Rattle.civil_base.specs.DateTimes.{instant}
use Rattle.zone_words.specs.{TimesShown.{asked}, declared.answer_form.AnswerForm.{AnswerForm}, declared.instant.Asked.{Asked}}
use Rattle.zone_texts.specs.{Faults.{Due, behind}, Instants.{line_due}, Views.{ZoneView}, declared.fault.ReplyFault.{ReplyFault}}
use Rattle.zone_command.specs.{Answers.{◌>>=◌}, Replies.{at_lines, instant_at, instants_at}}
use Rattle.zone_command.proofs.replies.at_lines.Goals as goal

-- what is left, by what is due of the next instant
next_is : (form : AnswerForm) (view : ZoneView) (name : List ℕ) (now : ℤ) (times : List Asked) (n : ℕ) (item : Asked) (text : List ℕ) (t : ℤ) (due : Due)
    → n < length times → item ≡ slice_index_or times n item → t ≡ instant_at now (asked item) → due ≡ behind text (line_due form view name t)
    → at_lines form view name text (instants_at now (map asked (drop n times)))
    ≡ due >>= (λ more. at_lines form view name more (instants_at now (map asked (drop (n + 1) times))))
next_is form view name now times n item text t due l is at e =
    let next : List ℕ → Due = λ more. at_lines form view name more (instants_at now (map asked (drop (n + 1) times))) in
    at_drop_more (λ left. at_lines form view name text (instants_at now (map asked left))) times n item l
    ∙ ap (λ x. behind text (line_due form view name (instant_at now (asked x))) >>= next) (sym is)
    ∙ ap (λ u. behind text (line_due form view name u) >>= next) (sym at) ∙ ap (λ d. d >>= next) (sym e)

-- a fault of the next ends them all
ends_at : (form : AnswerForm) (view : ZoneView) (name : List ℕ) (now : ℤ) (times : List Asked) (n : ℕ) (item : Asked) (text : List ℕ) (t : ℤ) (fault : ReplyFault) (all : Due)
    → n < length times → item ≡ slice_index_or times n item → t ≡ instant_at now (asked item) → line_due form view name t ≡ Err fault
    → at_lines form view name text (instants_at now (map asked (drop n times))) ≡ all → all ≡ Err fault
ends_at form view name now times n item text t fault all l is at e left =
    sym left ∙ next_is form view name now times n item text t (Err fault) l is at (sym (ap (behind text) e))

pub loop-time-preserved : goal.loop-time-preserved
loop-time-preserved g c =
    sym (next_is c.args.style.now.form (g.Z.ReplyZone.view c.args.zone.now) c.args.style.now.name.now (instant c.args.now.now) c.args.times.now
    c.loop-time.time-index c.time-item.result c.loop-time.text.items (instant c.moment_of-at.result) (Ok c.add_at_line.new.into.items) c.loop-time-test.true
    c.time-item.is c.moment_of-at.ensures c.in-Ok.ensures.ok) ∙ c.loop-time.invariant

pub returns-in-Err-OutOfYears : goal.returns-in-Err-OutOfYears
returns-in-Err-OutOfYears g c =
    ends_at c.args.style.now.form (g.Z.ReplyZone.view c.args.zone.now) c.args.style.now.name.now (instant c.args.now.now) c.args.times.now
    c.loop-time.time-index c.time-item.result c.loop-time.text.items (instant c.moment_of-at.result) _ _ c.loop-time-test.true
    c.time-item.is c.moment_of-at.ensures (rw c.in-Err-OutOfYears.field-0-is at c.in-Err-OutOfYears.ensures.cause) c.loop-time.invariant

pub returns-in-Err-Untold : goal.returns-in-Err-Untold
returns-in-Err-Untold g c =
    ends_at c.args.style.now.form (g.Z.ReplyZone.view c.args.zone.now) c.args.style.now.name.now (instant c.args.now.now) c.args.times.now
    c.loop-time.time-index c.time-item.result c.loop-time.text.items (instant c.moment_of-at.result) _ _ c.loop-time-test.true
    c.time-item.is c.moment_of-at.ensures (rw c.in-Err-Untold.field-0-is at c.in-Err-Untold.ensures.cause) c.loop-time.invariant

pub returns-in-Err-Skipped : goal.returns-in-Err-Skipped
returns-in-Err-Skipped g c =
    ends_at c.args.style.now.form (g.Z.ReplyZone.view c.args.zone.now) c.args.style.now.name.now (instant c.args.now.now) c.args.times.now
    c.loop-time.time-index c.time-item.result c.loop-time.text.items (instant c.moment_of-at.result) _ _ c.loop-time-test.true
    c.time-item.is c.moment_of-at.ensures (rw c.in-Err-Skipped.field-0-is at c.in-Err-Skipped.ensures.cause) c.loop-time.invariant

pub returns : goal.returns
returns g c =
    let left : List Asked → Due = λ times.
    at_lines c.args.style.now.form (g.Z.ReplyZone.view c.args.zone.now) c.args.style.now.name.now c.loop-time.text.items (instants_at (instant c.args.now.now) (map asked times)) in
    sym c.loop-time.invariant ∙ at_drop_all left c.args.times.now c.loop-time.time-index c.loop-time-test.false
