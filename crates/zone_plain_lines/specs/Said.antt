-- What can be said: what is written of a line is read as what the line means.
use Rattle.std.specs.{Prelude.{ℕ, ◌-◌, ◌==◌, List, length, slice_index, Bool, false, ◌&&◌, not, Result, Ok, Err, if◌then◌else◌}, List.{list_any}, Str.{is_utf8}}
use Rattle.zone_line.specs.{Fields.{is_ruleset_name}, LineValues.{value}}
use Rattle.zone_source.specs.Lines.{is_line_feed}
use Rattle.zone_table.specs.{Faults.{Fault}, Values.{LineValue}}
use Rattle.zone_plain_lines.specs.{declared.cause.PlainCause.{PlainCause}, Same.{same_line}, PlainTexts.{plain_text}, Renamed.{ruleset_of}, Meant.{line_meaning, is_next}}
use Rattle.zone_plain_lines.specs.declared.cause.PlainCause.TheVariants as cause

-- what was read is this
abbrev pub is_read_as : LineValue → Result LineValue Fault → Bool
is_read_as meant (Ok read) = same_line read meant
is_read_as meant (Err refused) = false

-- it has a carriage return at its end
abbrev pub ends_returned : List ℕ → Bool
ends_returned text = slice_index text (length text - 1) == 13

abbrev pub is_sharp : ℕ → Bool
is_sharp byte = byte == 35

-- before a line feed it is a line of a source as it stands, without a sharp, at which a reader of sources begins a comment
abbrev pub is_one_line : List ℕ → Bool
is_one_line text = not (list_any is_line_feed text) && not (ends_returned text) && not (list_any is_sharp text)

-- what a line means is this
abbrev pub is_meant_as : LineValue → Result LineValue PlainCause → Bool
is_meant_as meant (Ok read) = same_line read meant
is_meant_as meant (Err c) = false

-- whoever reads its text as a line of the plain form, and whoever reads it as a line of a source in any form, finds this in it
unfoldable pub is_read_by_both : LineValue → List ℕ → Bool
is_read_by_both meant text = is_read_as meant (value text) && is_meant_as meant (line_meaning (is_next meant) text)

-- RULES can say the name of its ruleset, and it is the text of one line, and what was read of it is this
unfoldable pub is_said_by : LineValue → List ℕ → Bool
is_said_by meant text = is_ruleset_name (ruleset_of meant) && (is_utf8 text && (is_one_line text && is_read_by_both meant text))

unfoldable pub is_said : LineValue → Bool
is_said meant = is_said_by meant (plain_text meant)

-- the value, if the plain form can say it
abbrev pub if_said : LineValue → Result LineValue PlainCause
if_said meant = if is_said meant then Ok meant else Err cause.Unsayable
