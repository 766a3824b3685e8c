use Rattle.std.proofs.Common.{sym, ◌∙◌}
use Rattle.tz_lookup.{specs.Compiles.{compiled_in_over}, proofs.CompileLemmas.{accepted_spans, far_spans}}
use Rattle.tz_lookup.proofs.compile.compile_zone_over.Goals as goal

pub returns-then-has_offsets-clause-accepted : goal.returns-then-has_offsets-clause-accepted
returns-then-has_offsets-clause-accepted c =
    let found = c.in-Ok-Some.ensures in
    accepted_spans c.from_compiled-set.result c.in-Ok-Some.compiled c.from_compiled-set.ensures.first c.from_compiled-set.ensures.others
    (rw c.in-Ok-Some.field-0-is at found.bounded) (rw c.in-Ok-Some.field-0-is at found.times)
    (sym c.has_offsets.ensures ∙ c.if-has_offsets.true)

pub returns-else-has_offsets-clause-err : goal.returns-else-has_offsets-clause-err
returns-else-has_offsets-clause-err c =
    far_spans c.from_compiled-set.result c.in-Ok-Some.compiled
    (compiled_in_over c.args.years c.args.table.now c.args.name.now) c.from_compiled-set.ensures.first c.from_compiled-set.ensures.others
    (rw c.in-Ok-Some.field-0-is at c.in-Ok-Some.ensures.told) (sym c.has_offsets.ensures ∙ c.if-has_offsets.false)
