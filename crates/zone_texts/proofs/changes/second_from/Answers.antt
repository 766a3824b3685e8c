use Rattle.std.proofs.Common.{arith}
use Rattle.basics.specs.SignedLaws.{signed_casts}
use Rattle.civil_base.specs.Instants.{seconds_of}
use Rattle.zone_texts.proofs.changes.second_from.Goals as goal

pub returns : goal.returns
unfolding seconds_of
returns c = omega (arith, signed_casts)
