use Rattle.std.proofs.Common.{◌≡◌, to_z, of_z, to_z-of_z, w64, [], ◌∷◌, ◌++◌, ap, sym, ◌∙◌, Ok}
use Rattle.zone_texts.{specs.{Faults.{behind}, Forces.{force_shown}, Lists.{change_due, change_text}}, proofs.ListLemmas.{change_is, new_out, old_out}}
use Rattle.zone_texts.proofs.changes.add_change_line.Goals as goal
use Rattle.civil_base.specs.DateTimes.{instant}

pub returns-in_default-clause-cause : goal.returns-in_default-clause-cause
returns-in_default-clause-cause g c =
    let view = g.Z.ReplyZone.view c.args.zone.now in
    let form = c.args.style.now.form in
    let name = c.args.style.now.name.now in
    ap (change_due form view name) (sym (to_z-of_z c.ranges.second))
    ∙ old_out form view name (to_z w64 (of_z w64 c.args.second)) (force_shown c.in_ok-old.old) c.in_ok-old.ensures c.in_default.ensures.dates

pub returns-in_default-date_at-clause-cause : goal.returns-in_default-date_at-clause-cause
returns-in_default-date_at-clause-cause g c =
    let view = g.Z.ReplyZone.view c.args.zone.now in
    let form = c.args.style.now.form in
    let name = c.args.style.now.name.now in
    ap (change_due form view name) (sym (to_z-of_z c.ranges.second))
    ∙ new_out form view name (to_z w64 (of_z w64 c.args.second)) (force_shown c.in_ok-new.new) c.in_ok-new.ensures c.in_default-date_at.ensures.dates

pub returns-clause-ok : goal.returns-clause-ok
returns-clause-ok g c =
    let view = g.Z.ReplyZone.view c.args.zone.now in
    let form = c.args.style.now.form in
    let name = c.args.style.now.name.now in
    let old = force_shown c.in_ok-old.old in
    let new = force_shown c.in_ok-new.new in
    let t = instant c.in-Some-date_at.after in
    let start = c.args.into.now.items in
    let s = to_z w64 (of_z w64 c.args.second) in
    let same : s ≡ c.args.second = to_z-of_z c.ranges.second in
    let is = change_is form view name s t old new c.in_ok-old.ensures c.in_ok-new.ensures c.in-Some-date_at.ensures.instant c.in-Some.ensures.dates
    c.in-Some-date_at.ensures.dates in
    let line = c.in_ok-extend_from_slice.ensures.items ∙ ap (λ l. l ++ (10 ∷ [])) (c.in_ok-add_change.ensures ∙ ap (λ l. l ++ change_text form name t old new) c.new-line.ensures.items) in
    ap Ok (c.in_ok-extend_from_slice-2.ensures.items ∙ ap (λ l. start ++ l) (c.deref.ensures.value ∙ line))
    ∙ sym (ap (λ x. behind start (change_due form view name x)) (sym same) ∙ ap (behind start) is)
