use Rattle.std.proofs.Common.{arith}
use Rattle.zone_tzif_core.{specs.Shown.{zone_shown}, proofs.CheckLemmas.{few_times, few_kinds, few_chars}}
use Rattle.zone_tzif_core.proofs.writer.written.Goals as goal

pub overflow_cast-times : goal.overflow_cast-times
overflow_cast-times c =
    let few = few_times c.args.zone.now c.as_slice.result.now c.requires.fits c.as_slice.ensures.value in
    omega (arith, few)

pub overflow_cast-kinds : goal.overflow_cast-kinds
overflow_cast-kinds c =
    let few = few_kinds (zone_shown c.args.zone.now) c.args.kinds.now c.requires.fits c.requires.distinct in
    omega (arith, few)

pub overflow_cast-chars : goal.overflow_cast-chars
overflow_cast-chars c =
    let few = few_chars (zone_shown c.args.zone.now) c.args.chars.now c.requires.fits c.requires.bytes in
    omega (arith, few)
