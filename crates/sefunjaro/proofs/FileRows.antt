-- A file that is refused, where memory is wanting too.
use Rattle.std.proofs.Common.{[], ◌∷◌, ◌++◌, length, ap, arith, length-append}
use Rattle.zone_tzif_core.specs.{Denotes.{Says, zone_file, old_file}, Zones.{ZoneValue}}
use Rattle.sefunjaro.specs.{Files.{IsFileFault}, declared.file.FileFault.TheVariants.{Refused, NoMemory}}

-- no bytes are no file
no_bytes : (value : ZoneValue) → ¬ (Says [] value)
no_bytes value (zone_file is) =
    absurd (omega (
      arith,
      ap length is.whole,
      is.first_header.long,
      length-append (is.head ++ is.skipped ++ is.second_head ++ is.block ++ 10 ∷ value.footer) (10 ∷ []),
      length-append (is.head ++ is.skipped ++ is.second_head ++ is.block) (10 ∷ value.footer),
      length-append (is.head ++ is.skipped ++ is.second_head) is.block,
      length-append (is.head ++ is.skipped) is.second_head,
      length-append is.head is.skipped,
    ))
no_bytes value (old_file is) = absurd (omega (arith, ap length is.whole, is.header.long, length-append is.head is.block))

-- so they are refused, and no memory is wanting
refused : IsFileFault [] Refused × (¬ (IsFileFault [] NoMemory))
refused = (no_bytes, λ zone. no_bytes zone.value zone.told)
