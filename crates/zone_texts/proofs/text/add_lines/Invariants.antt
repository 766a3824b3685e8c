use Rattle.std.{proofs.Common.{◌≡◌, ◌++◌, map, take}, specs.List.{flat_map}, specs.Prelude.{option_map}}
use Rattle.zone_texts.specs.{SeenNames.{name_seen}, Texts.{line_text}}
use Rattle.zone_texts.proofs.text.add_lines.Given as goal

abbrev pub invariant-loop-entry : goal.invariant-loop-entry
invariant-loop-entry l =
    l.into.items ≡ l.fn.into.items ++ flat_map (line_text l.form (option_map (λ word. word.now) l.word)) (map name_seen (take l.entry-index l.entries))
