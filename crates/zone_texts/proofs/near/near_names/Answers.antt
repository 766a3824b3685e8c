use Rattle.std.{proofs.Common.{◌++◌, List, map, ap, ◌∙◌}, proofs.lemmas.List.{take_all}, specs.List.{filter}}
use Rattle.zone_texts.{specs.{Near.{is_alike, near_names}, Same.{same}, SeenNames.{NameSeen, name_seen}}, proofs.NameLemmas.{first_of}}
use Rattle.zone_texts.proofs.near.near_names.Goals as goal

pub returns : goal.returns
unfolding near_names
returns c =
    let word = c.args.word.now in
    let all = take_all c.loop-entry.entry-index c.args.entries.now c.loop-entry-test.false in
    let named : List NameSeen → _ = λ seen. map (λ entry. entry.name) seen in
    ap (map (λ name. name.now)) c.truncate.ensures.items
    ∙ first_of (λ name. name.now) 3 c.loop-entry.near.items c.loop-entry.alike.items _ _ _
    (c.loop-entry.invariant.near ∙ ap (λ es. filter (same word) (named (map name_seen es))) all)
    (c.loop-entry.invariant.alike ∙ ap (λ es. filter (is_alike word) (named (map name_seen es))) all)
    (c.in_ok-extend_from_slice-3.ensures.items ∙ ap (λ t. c.loop-entry.near.items ++ t) c.deref.ensures.value)
