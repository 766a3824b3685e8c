use Rattle.std.proofs.Common.{sym, subst}
use Rattle.zone_tzif_core.specs.Stored.{AreStored}
use Rattle.zone_tzif_core.proofs.file_reader.zone_file.Goals as goal

pub invariant_of-result : goal.invariant_of-result
invariant_of-result c = record {
  stored = subst (λ names. AreStored names c.args.kinds.items) (sym c.in_ok-from_slice.ensures.items) c.requires.kept;
  some = c.requires.some;
  numbered = c.requires.numbered;
}
