use Rattle.std.{proofs.Common.{pos, int_le, w64, to_z, of_z, sym, ap, ◌∙◌}, specs.Prelude.{◌&&◌}, proofs.lemmas.Int.{to_z-of_z}}
use Rattle.civil_base.specs.Ranges.{is_offset}
use Rattle.tz_lookup.proofs.OffsetLemmas.{offset_test}
use Rattle.tz_lookup.proofs.set.is_offset.Goals as goal

pub returns-then-total-ge-LEAST_OFFSET : goal.returns-then-total-ge-LEAST_OFFSET
returns-then-total-ge-LEAST_OFFSET c =
    let kept = to_z w64 (of_z w64 c.args.total) in
    ap (λ b. b && int_le kept (pos 93599)) (sym c.if-total-ge-LEAST_OFFSET.true) ∙ offset_test kept
    ∙ ap is_offset (to_z-of_z w64 _ c.ranges.total)

pub returns-else-total-ge-LEAST_OFFSET : goal.returns-else-total-ge-LEAST_OFFSET
returns-else-total-ge-LEAST_OFFSET c =
    let kept = to_z w64 (of_z w64 c.args.total) in
    c.if-total-ge-LEAST_OFFSET.false ∙ ap (λ b. b && int_le kept (pos 93599)) (sym c.if-total-ge-LEAST_OFFSET.false) ∙ offset_test kept
    ∙ ap is_offset (to_z-of_z w64 _ c.ranges.total)
