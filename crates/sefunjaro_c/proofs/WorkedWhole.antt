-- Worked examples: why a zone has no string or no file, as it is told. The numbers are those of the header.
use Rattle.std.proofs.Common.{◌≡◌, refl}
use Rattle.zone_tail.specs.declared.outcome.TailFault.TheVariants as tail
use Rattle.zone_tzif.specs.declared.file.FileFault.TheVariants as file
use Rattle.sefunjaro_c.specs.Whole.{tzif_told, tail_told}

-- there is none of what is asked for, and no line is to blame
no_shape : tail_told tail.Shape ≡ record { status = 11; cause = 1; line = 0 }
no_shape = refl

no_memory_for_a_string : tail_told tail.NoMemory ≡ record { status = 2; cause = 0; line = 0 }
no_memory_for_a_string = refl

many_types : tzif_told file.Types ≡ record { status = 11; cause = 2; line = 0 }
many_types = refl

no_memory_for_a_file : tzif_told file.NoMemory ≡ record { status = 2; cause = 0; line = 0 }
no_memory_for_a_file = refl
