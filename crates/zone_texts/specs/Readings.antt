-- The replies to `local` and `convert`.
use Rattle.std.specs.Prelude.{ℕ, ◌+◌, List, [], ◌∷◌, length, Err, ℤ, if◌then◌else◌}
use Rattle.zone_words.specs.declared.answer_form.AnswerForm.{AnswerForm}
use Rattle.zone_texts.specs.{Faults.{Due, behind, each_due, followed}, Instants.{is_untold, shown_due}, Kinds.{kind_of}, Skips.{gap_due}, Views.{ZoneView}, declared.fault.ReplyFault.TheVariants.{Untold}, declared.kind.Kind.{Kind}}

-- these instants as clocks of a zone show them, each after a separator
abbrev pub after_each : AnswerForm → ZoneView → List ℕ → Kind → List ℕ → List ℤ → Due
after_each form view name kind separator = each_due (λ t. behind separator (shown_due form view name kind t))

-- an instant and others as clocks of a zone show them, with a separator between them
abbrev pub first_due : AnswerForm → ZoneView → List ℕ → List ℕ → ℤ → List ℤ → Due
first_due form view name separator t ts =
    followed (shown_due form view name (kind_of (length ts + 1)) t) (after_each form view name (kind_of (length ts + 1)) separator ts)

-- all instants of the local time x of a zone as clocks of another show them, with a separator between them, or what skips it
abbrev pub read_due : AnswerForm → ZoneView → List ℕ → ZoneView → List ℕ → List ℕ → ℤ → List ℤ → Due
read_due form from from_name to to_name separator x [] = gap_due form from from_name x
read_due form from from_name to to_name separator x (t ∷ ts) = first_due form to to_name separator t ts

-- the reply to `convert`
unfoldable pub convert_due : AnswerForm → ZoneView → List ℕ → ZoneView → List ℕ → List ℕ → ℤ → Due
convert_due form from from_name to to_name separator x =
    if is_untold from x then Err Untold else read_due form from from_name to to_name separator x (from.readings x)

-- the reply to `local`
abbrev pub local_due : AnswerForm → ZoneView → List ℕ → List ℕ → ℤ → Due
local_due form view name separator x = convert_due form view name view name separator x
