use Rattle.std.proofs.Common.{◌≡◌, ◌≤◌, length}
use Rattle.zone_words.specs.Logs.{after_blanks, fields_on}
use Rattle.zone_words.proofs.logs.from_field.Given as goal

abbrev pub invariant-fields : goal.invariant-fields
invariant-fields l = record {
  text : l.text ≡ fields_on l.passed (after_blanks l.line);
  within : length l.text ≤ length l.line;
}
