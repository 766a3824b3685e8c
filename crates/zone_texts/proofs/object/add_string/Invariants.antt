use Rattle.std.{proofs.Common.{◌≡◌, ◌++◌, ◌∷◌, take}, specs.List.{flat_map}}
use Rattle.zone_texts.specs.Objects.{escaped}
use Rattle.zone_texts.proofs.object.add_string.Given as goal

abbrev pub invariant-loop-byte : goal.invariant-loop-byte
invariant-loop-byte l = l.into.items ≡ l.fn.into.items ++ (34 ∷ flat_map escaped (take l.byte-index l.byte-items))
