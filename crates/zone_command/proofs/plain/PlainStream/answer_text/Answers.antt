use Rattle.std.proofs.{Common.{sym}, lemmas.Str.{is_utf8-from_IsUtf8}}
use Rattle.zone_command.proofs.plain.PlainStream.answer_text.Goals as goal

pub answer_today-requires-clause-asks : goal.answer_today-requires-clause-asks
answer_today-requires-clause-asks c = record { text = is_utf8-from_IsUtf8 _ c.utf8.text; reads = sym c.in-Some.ensures.read }

pub answer_ever-requires-clause-asks : goal.answer_ever-requires-clause-asks
answer_ever-requires-clause-asks c = record { text = is_utf8-from_IsUtf8 _ c.utf8.text; reads = sym c.in-Some.ensures.read }
