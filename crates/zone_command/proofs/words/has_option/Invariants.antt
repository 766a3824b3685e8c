use Rattle.std.{proofs.Common.{◌≡◌, drop, map}, specs.Prelude.{string_bytes}}
use Rattle.zone_command.specs.Requests.{has_option}
use Rattle.zone_command.proofs.words.has_option.Given as goal

-- whether one is left tells it of all
abbrev pub invariant-loop-word : goal.invariant-loop-word
invariant-loop-word l = has_option (map string_bytes (drop l.word-index l.words)) ≡ has_option (map string_bytes l.words)
