use Rattle.std.proofs.{Common.{arith, to_z-of_z}, lemmas.Int.{ints}}
use Rattle.civil_base.specs.{Instants.{nanos_of}, RangeLaws.{years_begin}}
use Rattle.sefunjaro.proofs.offsets.stretch_at.Goals as goal

pub zone_stretch-requires-clause-early : goal.zone_stretch-requires-clause-early
zone_stretch-requires-clause-early c = λ always.
    omega (arith, ints, years_begin (nanos_of c.args.second) c.requires, to_z-of_z c.ranges.second)
