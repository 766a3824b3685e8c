-- A file beside the one that is written.
use Rattle.std.specs.Prelude.{ℕ, Bool, true, false, List, Result, Ok, Err}
use Rattle.zone_tzif_core.specs.{Denotes.{Denotes}, Shown.{zone_shown}, Tzif.{IsTzif}, Zones.{ZoneValue}, declared.values.ReadFault.{ReadFault}, declared.values.ReadFault.TheVariants.{Refused, NoMemory}, declared.values.TzifZone.{TzifZone}}

-- whether the bytes are what is written for the value, or no memory
abbrev pub Compares : List ℕ → ZoneValue → Result Bool ReadFault → Type 0
Compares bytes zone (Ok true) = IsTzif bytes zone
Compares bytes zone (Ok false) = ¬ (IsTzif bytes zone)
Compares bytes zone (Err Refused) = ⊥
Compares bytes zone (Err NoMemory) = Unit {0}

-- the zone of the result is the one whose file the bytes are, they are the file of none where they are refused, and denote some zone
-- where memory was wanting
abbrev pub ReadsWritten : List ℕ → Result TzifZone ReadFault → Type 0
ReadsWritten bytes (Ok zone) = IsTzif bytes (zone_shown zone)
ReadsWritten bytes (Err Refused) = (zone : ZoneValue) → ¬ (IsTzif bytes zone)
ReadsWritten bytes (Err NoMemory) = (zone : ZoneValue) × Denotes bytes zone
