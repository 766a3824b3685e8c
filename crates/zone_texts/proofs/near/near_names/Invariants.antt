use Rattle.std.{proofs.Common.{◌≡◌, map, take}, specs.List.{filter}}
use Rattle.zone_texts.specs.{Near.{is_alike}, Same.{same}, SeenNames.{name_seen}}
use Rattle.zone_texts.proofs.near.near_names.Given as goal

abbrev pub invariant-loop-entry : goal.invariant-loop-entry
invariant-loop-entry l = record {
  near : map (λ name. name.now) l.near.items ≡ filter (same l.word) (map (λ entry. entry.name) (map name_seen (take l.entry-index l.entries)));
  alike : map (λ name. name.now) l.alike.items ≡ filter (is_alike l.word) (map (λ entry. entry.name) (map name_seen (take l.entry-index l.entries)));
}
