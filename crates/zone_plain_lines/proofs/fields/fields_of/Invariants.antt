use Rattle.std.{proofs.Common.{◌≡◌, map}, specs.Prelude.{filter}}
use Rattle.zone_plain_lines.specs.Quotes.{is_text}
use Rattle.zone_plain_lines.proofs.fields.fields_of.Given as goal

abbrev pub invariant-loop-piece : goal.invariant-loop-piece
invariant-loop-piece l = map (λ t. t.now) l.fields.items ≡ filter is_text (map (λ t. t.now) l.yielded)
