-- The plain form of a source.
use Rattle.std.specs.Prelude.{ℕ, List, ◌++◌, Result, Ok, Err, length, nat_lt, if◌then◌else◌}
use Rattle.zone_outside.specs.Limit.{text_limit}
use Rattle.zone_table.specs.Results.{◌>>=◌}
use Rattle.zone_plain_lines.specs.LineFaults.{Refusal, too_long, by_line}
use Rattle.zone_plain.specs.{Settled.{settled}, WrittenOut.{written_out}, Heads.{head_of}, LineValues.{values_in}, Written.{written}}

abbrev pub if_short : List ℕ → Result (List ℕ) Refusal
if_short bytes = if nat_lt text_limit (length bytes) then Err too_long else Ok bytes

-- what is written of a source, or why nothing is: the line of its release, then its lines each by itself, then its links, then what `%z`
-- asks for
unfoldable pub plain_of : List ℕ → Result (List ℕ) Refusal
plain_of source = do
  head ← by_line (head_of source)
  values ← by_line (values_in source)
  linked ← settled values
  out ← written_out linked
  if_short (head ++ written out)
