-- The words that a user reads where a zone has no file.
use Rattle.std.proofs.Common.{◌≡◌, codes, refl}
use Rattle.zone_tzif.specs.Asks.{fault_word}
use Rattle.zone_tzif_core.specs.declared.values.WriteFault.TheVariants.{Times, Types, Names}

times : fault_word Times ≡ codes "times"
times = refl

types : fault_word Types ≡ codes "types"
types = refl

names : fault_word Names ≡ codes "names"
names = refl
