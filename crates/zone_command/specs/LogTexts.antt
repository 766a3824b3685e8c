-- What is shown for a time in a log.
use Rattle.std.specs.Prelude.{ℕ, List, [], Option, Some, None, Ok, Err, ℤ, min}
use Rattle.zone_words.specs.declared.answer_form.AnswerForm.{AnswerForm, TheVariants.{People, Rfc3339, Epoch, Json}}
use Rattle.zone_texts.specs.{Faults.{Due}, Instants.{at_due}, Views.{ZoneView}}

-- a log has no objects
abbrev pub log_form : AnswerForm → AnswerForm
log_form Json = Rfc3339
log_form People = People
log_form Rfc3339 = Rfc3339
log_form Epoch = Epoch

abbrev pub text_of : Due → Option (List ℕ)
text_of (Ok text) = Some text
text_of (Err fault) = None

-- what clocks show at an instant; nothing where that can't be told
abbrev pub log_text : AnswerForm → ZoneView → ℤ → Option (List ℕ)
log_text form view t = text_of (at_due (log_form form) view [] t)

-- the number of the field; none is the front of the line. A time ends within 4,096 bytes, so none stands behind the 4,096th field
abbrev pub field_of : Option ℕ → ℕ
field_of None = 0
field_of (Some number) = min number 4096
