-- What a line of a source in any form means, in its place.
use Rattle.std.specs.{Prelude.{ℕ, List, Bool, true, false, Result, Err, if◌then◌else◌}, Str.{is_utf8}}
use Rattle.zone_table.specs.{Results.{◌>>=◌}, Values.{LineValue, continuation}}
use Rattle.zone_plain_lines.specs.{Meanings.{meaning}, Quotes.{fields, laid_out}, declared.cause.PlainCause.{PlainCause}}
use Rattle.zone_plain_lines.specs.declared.cause.PlainCause.TheVariants as cause

-- the same of a line whose fields stand in its text; the text of a line without its comment and its quotes is text too
abbrev pub meant_by : Bool → List ℕ → List (List ℕ) → Result LineValue PlainCause
meant_by is_continued line found = if is_utf8 (laid_out line) then meaning is_continued found else Err cause.NotText

-- what a line means, with its ruleset by the source's name
unfoldable pub line_meaning : Bool → List ℕ → Result LineValue PlainCause
line_meaning is_continued line = if is_utf8 line then (do
  found ← fields line
  meant_by is_continued line found) else Err cause.NotText

-- it stands where a line of a zone has to follow
abbrev pub is_next : LineValue → Bool
is_next (continuation info) = true
is_next _ = false
