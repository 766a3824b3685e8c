use Rattle.std.proofs.Common.{◌∙◌, ◌++◌, ◌<◌, ◌≤◌, map, length, sym, ap, subst, arith}
use Rattle.zone_table.specs.Values.{line_value}
use Rattle.zone_plain.{specs.WrittenOut.{IsWrittenAs}, proofs.MadeNameLemmas.{length_read}, proofs.OffsetStageLemmas.{one_reached, unsaid_at, too_long_at, all_reached}}
use Rattle.zone_plain.proofs.offsets.write_lines.Goals as goal

pub loop-place-preserved : goal.loop-place-preserved
loop-place-preserved c =
    let inside : c.loop-place.place < length (map line_value c.args.lines.now) = omega (arith, length_read c.args.lines.now, c.loop-place-test.true) in
    let short : length c.write_line.new.made.items ≤ 16777216 = omega (arith, ap length c.as_slice.ensures.value, c.if-as_slice-gt-LIMIT.false) in
    one_reached _ _ _ _ _ _ _ _ _ _ c.requires.mark inside c.loop-place.invariant c.in-Ok.ensures c.if-not-is_said.false short

pub returns-then-not-is_said-clause-err : goal.returns-then-not-is_said-clause-err
returns-then-not-is_said-clause-err c =
    let inside : c.loop-place.place < length (map line_value c.args.lines.now) = omega (arith, length_read c.args.lines.now, c.loop-place-test.true) in
    unsaid_at _ _ _ _ _ _ _ _ _ _ c.requires.mark inside c.loop-place.invariant c.in-Ok.ensures c.if-not-is_said.true

pub returns-then-as_slice-gt-LIMIT-clause-err : goal.returns-then-as_slice-gt-LIMIT-clause-err
returns-then-as_slice-gt-LIMIT-clause-err c =
    let inside : c.loop-place.place < length (map line_value c.args.lines.now) = omega (arith, length_read c.args.lines.now, c.loop-place-test.true) in
    let long : 16777216 < length c.write_line.new.made.items = omega (arith, ap length c.as_slice.ensures.value, c.if-as_slice-gt-LIMIT.true) in
    too_long_at _ _ _ _ _ _ _ _ _ _ c.requires.mark inside c.loop-place.invariant c.in-Ok.ensures c.if-not-is_said.false long

pub returns-in-Ok-joined-clause-ok : goal.returns-in-Ok-joined-clause-ok
returns-in-Ok-joined-clause-ok c =
    let past : length (map line_value c.args.lines.now) ≤ c.loop-place.place = omega (arith, length_read c.args.lines.now, c.loop-place-test.false) in
    let out = c.loop-place.out in
    subst (IsWrittenAs (map line_value c.args.lines.now))
    (sym (c.in-Ok-joined.ensures ∙ ap (λ made. ((out.rules.items ++ made) ++ out.zones.items) ++ out.links.items) c.as_slice-2.ensures.value))
    (all_reached _ _ _ _ _ past c.loop-place.invariant)
