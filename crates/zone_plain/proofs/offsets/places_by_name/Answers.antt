use Rattle.std.proofs.Common.{◌<◌, ◌≤◌, map, length, arith}
use Rattle.zone_table.specs.Values.{line_value}
use Rattle.zone_plain.proofs.{MadeNameLemmas.{length_read}, GroupLemmas.{nothing_grouped, one_grouped, all_grouped}}
use Rattle.zone_plain.proofs.offsets.places_by_name.Goals as goal

pub loop-place-init : goal.loop-place-init
loop-place-init c = rw c.new-groups.ensures (nothing_grouped _)

pub loop-place-preserved : goal.loop-place-preserved
loop-place-preserved c =
    let inside : c.loop-place.place < length (map line_value c.args.lines.now) =
    omega (arith, length_read c.args.lines.now, c.loop-place-test.true) in
    rw (c.in_ok-add_place.ensures, c.line_in-line.ensures) (one_grouped _ _ _ inside c.loop-place.invariant)

pub returns : goal.returns
returns c =
    let past : length (map line_value c.args.lines.now) ≤ c.loop-place.place =
    omega (arith, length_read c.args.lines.now, c.loop-place-test.false) in
    all_grouped _ _ _ past c.loop-place.invariant
