use Rattle.std.{proofs.Common.{map, ap, ◌∙◌, not}, specs.List.{list_any}}
use Rattle.zone_plain.{specs.Pairs.{is_same, with_pair, number_of}, specs.Shown.{pair_shown}, proofs.PairLemmas.{shown_insert, place_shown, any_shown}}
use Rattle.zone_plain.proofs.asked.Pairs.number.Goals as goal

pub returns-clause-pairs : goal.returns-clause-pairs
returns-clause-pairs c =
    ap (map pair_shown) c.in_ok-number.ensures.keys ∙ shown_insert c.self.inside.met.keys c.args.pair
    ∙ ap (λ pairs. with_pair pairs (pair_shown c.args.pair)) c.self.view_is

pub returns-clause-number : goal.returns-clause-number
returns-clause-number c =
    c.in_ok-number.ensures.index ∙ place_shown c.args.pair c.self.inside.met.keys
    ∙ ap (λ pairs. number_of pairs (pair_shown c.args.pair)) c.self.view_is

pub returns-clause-added : goal.returns-clause-added
returns-clause-added c =
    c.in_ok-number.ensures.added ∙ ap not (any_shown c.args.pair c.self.inside.met.keys
    ∙ ap (λ pairs. list_any (is_same (pair_shown c.args.pair)) pairs) c.self.view_is)
