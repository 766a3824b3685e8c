use Rattle.std.proofs.{Common.{◌++◌, ◌∙◌, sym, ap, map, filter_map}, lemmas.List.{append-nil, at_drop_all}}
use Rattle.tz_lookup.specs.InForce.{shown_of}
use Rattle.zone_uses.proofs.RungLemmas.{rung_shown}
use Rattle.zone_uses.proofs.alarm.instants_of.Goals as goal

pub returns : goal.returns
returns c =
    let found = c.loop-ring.found.items in
    let rings = c.args.rings.now in
    let ended = at_drop_all (λ left. found ++ filter_map (λ ring. ring.at) left) rings c.loop-ring.ring-index c.loop-ring-test.false in
    ap (map shown_of) (sym (append-nil found) ∙ sym ended ∙ c.loop-ring.invariant) ∙ rung_shown rings
