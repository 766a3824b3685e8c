use Rattle.std.proofs.Common.{arith, to_z-of_z, ◌<◌, ◌≤◌, length}
use Rattle.zone_plain.proofs.MadeLemmas.{nothing_made, one_made, unsaid_at, all_made_at}
use Rattle.zone_plain.proofs.made.add_rules.Goals as goal

pub loop-index-init : goal.loop-index-init
loop-index-init c = nothing_made _ _ _ _

pub loop-index-preserved : goal.loop-index-preserved
loop-index-preserved c =
    let inside : c.loop-index.index < length c.args.places.now = omega (arith, c.loop-index-test.true) in
    one_made _ _ _ _ _ _ _ _ _ _ inside c.line_in-line.ensures c.loop-index.invariant c.in_ok-add_line.ensures c.if-not-branch.false

pub returns-then-not-branch : goal.returns-then-not-branch
returns-then-not-branch c =
    let inside : c.loop-index.index < length c.args.places.now = omega (arith, c.loop-index-test.true) in
    unsaid_at _ _ c.args.offset _ _ _ _ _ _ _ _ (to_z-of_z c.ranges.offset) inside c.line_in-line.ensures c.loop-index.invariant c.in_ok-add_line.ensures c.if-not-branch.true

pub returns : goal.returns
returns c =
    let past : length c.args.places.now ≤ c.loop-index.index = omega (arith, c.loop-index-test.false) in
    all_made_at _ _ c.args.offset _ _ _ _ _ (to_z-of_z c.ranges.offset) past c.loop-index.invariant
