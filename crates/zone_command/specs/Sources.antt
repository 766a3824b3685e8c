-- Sources in any form: when a text is read as one, and what is told where it isn't.
use Rattle.std.specs.{Prelude.{◌≡◌, ◌≢◌, ◌⊎◌, ℕ, ◌+◌, ◌-◌, ◌==◌, ◌&&◌, List, Bool, false, not, length, slice_index, Option, Some, None, Result, Ok, Err, codes, bytes_eq, take, if◌then◌else◌}, List.{count_by}}
use Rattle.sefunjaro.specs.{AnySources.{IsAnyFault, IsAnySource, IsSourceOfForm}, declared.any_source.AnySourceFault.{AnySourceFault}, declared.source.OpenSource.{OpenSource}}
use Rattle.sefunjaro.specs.declared.any_source.AnySourceFault.TheVariants as source
use Rattle.zone_command.specs.{Answers.{Answer}, Causes.{cause_words, form_words, line_words}}
use Rattle.zone_plain.specs.Plain.{plain_of}
use Rattle.zone_plain_lines.specs.LineFaults.{Refusal, bad_line, too_long}
use Rattle.zone_source.specs.{Faults.{source_fault}, Lines.{is_line_feed}}

-- it begins as compiled files do
abbrev pub is_compiled : List ℕ → Bool
is_compiled text = bytes_eq (take 4 text) (codes "TZif")

-- it has bytes, and the last is no line feed
abbrev pub is_cut : List ℕ → Bool
is_cut text = not (length text == 0) && not (is_line_feed (slice_index text (length text - 1)))

abbrev pub cut_words : List ℕ → List ℕ
cut_words text = line_words (count_by is_line_feed text + 1) false (codes "the source ends in the middle of it")

-- why a text is refused at first sight: it is a compiled file, or was cut short
unfoldable pub first_refusal : List ℕ → Option (List ℕ)
first_refusal text =
    if is_compiled text then Some (codes "this is a compiled file, and a source is wanted")
    else (if is_cut text then Some (cut_words text) else None)

-- what is told of a text without a plain form
abbrev pub refusal_words : Refusal → List ℕ
refusal_words (bad_line fault) = line_words fault.number false (cause_words fault.cause)
refusal_words too_long = codes "this source has more than 16,777,216 bytes in plain form"

abbrev pub form_due : Result (List ℕ) Refusal → Answer
form_due (Ok form) = Ok form
form_due (Err refusal) = Err (refusal_words refusal)

-- the answer, unless a text is refused
abbrev pub unless : Option (List ℕ) → Answer → Answer
unless None answer = answer
unless (Some why) answer = Err why

-- the plain form of a text, or why it has none
unfoldable pub form_of : List ℕ → Answer
form_of text = unless (first_refusal text) (form_due (plain_of text))

-- what is told of a text that is no source
abbrev pub fault_words : AnySourceFault → List ℕ
fault_words source.TooLong = codes "this source has more than 16,777,216 bytes"
fault_words (source.Line n cause) = line_words n false (cause_words cause)
fault_words source.PlainTooLong = codes "this source has more than 16,777,216 bytes in plain form"
fault_words (source.Plain error) = form_words error
fault_words source.NoMemory = codes "out of memory"

-- what is told of the first fault of a text
pub record HasFault (text why : List ℕ) : Type 0 where
  pub fault : AnySourceFault
  pub is : IsAnyFault text fault
  pub words : why ≡ fault_words fault

-- a text is read as this, or in these words it isn't
abbrev pub IsRead : List ℕ → OpenSource → Type 0
IsRead text source = (first_refusal text ≡ None) × IsAnySource text source

abbrev pub IsUnread : List ℕ → List ℕ → Type 0
IsUnread text why = (first_refusal text ≡ Some why) ⊎ ((first_refusal text ≡ None) × HasFault text why)

-- the same where one in plain form is read as it stands, as `zone_answers` reads it
abbrev pub IsReadPlainly : List ℕ → OpenSource → Type 0
IsReadPlainly text source =
    (first_refusal text ≡ None) × (IsSourceOfForm text source ⊎ ((source_fault text ≢ None) × IsAnySource text source))

abbrev pub IsUnreadPlainly : List ℕ → List ℕ → Type 0
IsUnreadPlainly text why =
    (first_refusal text ≡ Some why) ⊎ ((first_refusal text ≡ None) × (source_fault text ≢ None) × HasFault text why)
