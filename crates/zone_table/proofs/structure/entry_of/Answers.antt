use Rattle.std.proofs.{Common.{rules, ◌≡◌, ◌∙◌, Ok, map as each}, lemmas.Iterator.{YieldsList-from_map_by, YieldsList-from_slice}, lemmas.Iterator.Consumers.{map_from_collect, YieldsList-at}}
use Rattle.zone_table.{proofs.TreeLemmas.{shown_children}, specs.Shown.{child_value}}
use Rattle.zone_table.proofs.structure.entry_of.Goals as goal

pub returns : goal.returns
returns c =
    let shown : each child_value c.in_ok-children.children.items ≡ each (λ p. child_value p.1) c.args.placed.now =
    map_from_collect {E = Unit {0}} (Ok c.in_ok-children.children) c.in_ok-children.ensures.ran
    (YieldsList-from_map_by _ child_value (λ p. child_value p.1)
    (YieldsList-at c.map.ensures.source (YieldsList-from_slice c.args.placed.now c.iter.ensures.rest)) c.map.ensures.closure
    (λ x r q k. search rules)) in
    λ i. record { name = c.args.name.now; children = (shown ∙ shown_children c.args.placed.now) i }
