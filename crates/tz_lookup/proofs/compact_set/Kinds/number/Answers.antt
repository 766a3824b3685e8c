use Rattle.std.proofs.Common.{map, ap, ◌∙◌}
use Rattle.tz_lookup.{specs.Kinds.{with_kind}, specs.KindShown.{kind_shown}, proofs.KindLemmas.{shown_insert, stored_kind}}
use Rattle.tz_lookup.proofs.compact_set.Kinds.number.Goals as goal

pub returns-clause-kinds : goal.returns-clause-kinds
returns-clause-kinds c =
    ap (map kind_shown) c.in_ok-number.ensures.keys ∙ shown_insert c.self.inside.met.keys c.of.result
    ∙ (λ i. with_kind (c.self.view_is i) (c.of.ensures i))

pub returns-clause-kind : goal.returns-clause-kind
returns-clause-kind c =
    let stored = c.in_ok-number.ensures.stored in
    stored_kind c.insert_full.new.self.keys c.in_ok-number.number c.of.result stored.0 stored.1 stored.2 ∙ c.of.ensures
