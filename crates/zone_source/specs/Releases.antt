-- The release that a source names.
use Rattle.std.specs.{Prelude.{ℕ, Bool, ◌&&◌, not, ◌==◌, nat_eq, nat_le, nat_lt, List, ◌++◌, length, drop, slice_get, Option, Some, None, option_and_then, codes, if◌then◌else◌}, List.{list_all, starts_with}, Str.{is_utf8}}
use Rattle.zone_source.specs.Lines.{lines_of}

-- what the line that names a release begins with, as the source of a tz distribution does
abbrev pub heading : List ℕ
heading = codes "# version "

-- a byte of no control character
abbrev pub is_shown : ℕ → Bool
is_shown byte = nat_le 32 byte && not (byte == 127)

-- something, without control characters
abbrev pub is_release : List ℕ → Bool
is_release text = nat_lt 0 (length text) && list_all is_shown text

abbrev pub if_text : List ℕ → Option (List ℕ)
if_text text = if is_utf8 text then Some text else None

abbrev pub if_release : List ℕ → Option (List ℕ)
if_release text = if is_release text then if_text text else None

abbrev pub behind_heading : List ℕ → Option (List ℕ)
behind_heading line = if starts_with nat_eq line heading then Some (drop 10 line) else None

-- the release that a line names: all that stands behind the heading
unfoldable pub named_by : List ℕ → Option (List ℕ)
named_by line = option_and_then if_release (behind_heading line)

-- the release that a source names, by its first line
unfoldable pub release_of : List ℕ → Option (List ℕ)
release_of source = option_and_then named_by (slice_get (lines_of source) 0)

-- the line that names a release
abbrev pub line_naming : List ℕ → List ℕ
line_naming release = heading ++ release
