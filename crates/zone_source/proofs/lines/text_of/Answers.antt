use Rattle.std.proofs.lemmas.{Str.{is_utf8-from_IsUtf8, IsUtf8-from_is_utf8}, Bool.{false_from_ne_true}}
use Rattle.zone_source.proofs.lines.text_of.Goals as goal

pub returns-in-Ok-clause-text : goal.returns-in-Ok-clause-text
returns-in-Ok-clause-text c = let read = c.in-Ok.ensures.cases in (read.0, is_utf8-from_IsUtf8 _ read.1)

pub returns-in-Err-clause-none : goal.returns-in-Err-clause-none
returns-in-Err-clause-none c = false_from_ne_true _ (λ is. c.in-Err.ensures.cases.0 (IsUtf8-from_is_utf8 _ is))
