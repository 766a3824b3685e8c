-- How a run ends.
use Rattle.std.specs.Prelude.{ℕ, List, Option, IsNone}
use Rattle.zone_file_answers.specs.Responses.{writes}
use Rattle.zone_source.specs.{Runs.{EndsOver, Seen}, declared.running.Status.{Status}}

-- how a run ended whose words name this file
abbrev pub Ends : Option (List ℕ) → Seen → Seen → Status → Type 0
Ends name before now end = EndsOver writes (IsNone name) name before now end
