use Rattle.std.proofs.Common.{◌≡◌, ◌+◌, ◌++◌, length, map, drop}
use Rattle.zone_texts.specs.Unknown.{choices_text}
use Rattle.zone_texts.proofs.unknown.add_choices.Given as goal

abbrev pub invariant-loop-name : goal.invariant-loop-name
invariant-loop-name l = record {
  left : l.others + l.name-index ≡ length l.names;
  text : l.into.items ++ choices_text (map (λ name. name.now) (drop l.name-index l.names)) ≡ l.fn.into.items ++ choices_text (map (λ name. name.now) l.names);
}
