-- The reply to `list`.
use Rattle.std.specs.{Prelude.{◌&&◌, ℕ, List, [], ◌∷◌, ◌++◌, codes, Ok, Err, int_lt, ℤ, pos, ◌+ℤ◌, ◌-ℤ◌, if◌then◌else◌}, Fmt.{signed_decimal}}
use Rattle.civil_base.specs.Instants.{local_at, nanos_of, seconds_of}
use Rattle.zone_words.specs.{Written.{epoch_text, offset_shown, people_text, rfc3339_text}, declared.answer_form.AnswerForm.{AnswerForm}, declared.answer_form.AnswerForm.TheVariants.{People, Rfc3339, Epoch, Json}}
use Rattle.zone_texts.specs.{Faults.{Due, each_due}, Instants.{is_untold}, Objects.{change_object_text}, Skips.{after_of, before_of, has_dates}, Views.{InForce, ZoneView}, declared.fault.ReplyFault.TheVariants.{OutOfYears, Untold}, declared.kind.Kind.{Kind}, declared.kind.Kind.TheVariants.{One, Gap, Fold}}

-- what clocks show at an instant by what is in force on one side of it
abbrev pub side_text : AnswerForm → ℤ → InForce → List ℕ
side_text People t force = people_text (local_at t force.offset) force.offset force.name
side_text Rfc3339 t force = rfc3339_text (local_at t force.offset) force.offset ++ 32 ∷ force.name
side_text Epoch t force = offset_shown force.offset ++ 32 ∷ force.name
side_text Json t force = []

-- the instant of a change, what clocks show up to it and from it on, and the saving from it on
unfoldable pub sides_text : AnswerForm → ℤ → InForce → InForce → List ℕ
sides_text form t old new =
    epoch_text t ++ codes ": " ++ side_text form t old ++ codes " to " ++ side_text form t new ++ codes ", saving " ++ signed_decimal new.saving

-- clocks skip local times by a change, read some twice, or do neither
abbrev pub kind_between : ℤ → ℤ → Kind
kind_between before after = if int_lt before after then Gap else (if int_lt after before then Fold else One)

abbrev pub change_text : AnswerForm → List ℕ → ℤ → InForce → InForce → List ℕ
change_text Json name t old new =
    change_object_text name t (local_at t new.offset) new.offset new (kind_between old.offset new.offset) old.offset
change_text People name t old new = sides_text People t old new
change_text Rfc3339 name t old new = sides_text Rfc3339 t old new
change_text Epoch name t old new = sides_text Epoch t old new

-- the line of the change at a second
unfoldable pub change_due : AnswerForm → ZoneView → List ℕ → ℤ → Due
change_due form view name second =
    if has_dates second (before_of view second) && has_dates second (after_of view second)
    then Ok (change_text form name (nanos_of second) (view.force (second -ℤ pos 1)) (view.force second) ++ 10 ∷ []) else Err OutOfYears

-- the first second at an instant or after it
abbrev pub second_from : ℤ → ℤ
second_from t = seconds_of (t +ℤ pos 999999999)

-- the changes from an instant on and before another
unfoldable pub list_due : AnswerForm → ZoneView → List ℕ → ℤ → ℤ → Due
list_due form view name from to =
    if is_untold view to then Err Untold else each_due (change_due form view name) (view.changes (second_from from) (second_from to))
