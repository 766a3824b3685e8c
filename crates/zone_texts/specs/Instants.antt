-- Instants of a zone as they are written.
use Rattle.std.specs.Prelude.{◌≡◌, Bool, not, List, ℕ, length, ℤ, int_lt, Ok, Err, if◌then◌else◌}
use Rattle.basics.specs.Dates.{year_of}
use Rattle.civil_base.specs.{Instants.{local_at, seconds_of}, Layout.{day_part}, Ranges.{is_in_years}}
use Rattle.zone_words.specs.{Written.{epoch_text, people_text, rfc3339_text}, declared.answer_form.AnswerForm.{AnswerForm}, declared.answer_form.AnswerForm.TheVariants.{People, Rfc3339, Epoch, Json}}
use Rattle.zone_texts.specs.{Faults.{Due, ended}, Kinds.{kind_of}, Objects.{object_text}, Views.{ZoneView}, declared.fault.ReplyFault.TheVariants.{OutOfYears, Untold}, declared.kind.Kind.{Kind}}

-- the instant t with the offset o in force, in a form
abbrev pub instant_text : AnswerForm → ZoneView → List ℕ → Kind → ℤ → ℤ → List ℕ
instant_text People view name kind t o = people_text (local_at t o) o (view.force (seconds_of t)).name
instant_text Rfc3339 view name kind t o = rfc3339_text (local_at t o) o
instant_text Epoch view name kind t o = epoch_text t
instant_text Json view name kind t o = object_text name t (local_at t o) o (view.force (seconds_of t)) kind

-- a local time past the last year that a zone is told for
abbrev pub is_untold : ZoneView → ℤ → Bool
is_untold view x = int_lt view.last_year (year_of (day_part x))

-- the instant t as clocks of the zone show it
unfoldable pub shown_due : AnswerForm → ZoneView → List ℕ → Kind → ℤ → Due
shown_due form view name kind t =
    if not (is_in_years (local_at t (view.total t))) then Err OutOfYears
    else (if is_untold view (local_at t (view.total t)) then Err Untold else Ok (instant_text form view name kind t (view.total t)))

-- the kind of a local time: how many instants it has
abbrev pub kind_at : ZoneView → ℤ → Kind
kind_at view x = kind_of (length (view.readings x))

-- the reply to `at`
abbrev pub at_due : AnswerForm → ZoneView → List ℕ → ℤ → Due
at_due form view name t = shown_due form view name (kind_at view (local_at t (view.total t))) t

-- the line of an instant
abbrev pub line_due : AnswerForm → ZoneView → List ℕ → ℤ → Due
line_due form view name t = ended (at_due form view name t)

-- the kind matters in objects alone
abbrev pub IsKindFor : AnswerForm → Kind → Kind → Type 0
IsKindFor Json kind wanted = kind ≡ wanted
IsKindFor People kind wanted = Unit {0}
IsKindFor Rfc3339 kind wanted = Unit {0}
IsKindFor Epoch kind wanted = Unit {0}
