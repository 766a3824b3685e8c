-- The file of a compiled set, and why there is none.
use Rattle.std.specs.Prelude.{◌≡◌, ℕ, Bool, ◌||◌, List, [], Option, Some, None, Result, Ok, Err, if◌then◌else◌, is_none}
use Rattle.tz_lookup.specs.declared.set.FixedTimespanSet.{FixedTimespanSet}
use Rattle.zone_tail.specs.{Carried.{CarriesOn}, Found.{found_from, found_text}, Tails.{is_ending_early, is_outlasting, is_saving_on, tail_fault, IsTail}}
use Rattle.zone_tzif_core.specs.{Tzif.{tzif, tzif_by, write_fault}, Zones.{ZoneValue}, declared.values.Version.{Version}, declared.values.Version.TheVariants.{Two}, declared.values.WriteFault.{WriteFault}}
use Rattle.zone_tzif_core.specs.declared.values.WriteFault.TheVariants as write
use Rattle.zone_tzif.specs.{Values.{value_of}, declared.file.FileFault.{FileFault}, declared.file.FileFault.TheVariants.{Times, Types, Names, NoMemory}}

-- the string that carries the set on, or nothing where it has none
unfoldable pub footer_of : FixedTimespanSet → List ℕ
footer_of set = if is_none (tail_fault set) then found_text set else []

-- where there is one, it is the one string of the set, and carries it on
pub record IsCarriedOn (set : FixedTimespanSet) : Type 0 where
  pub tail : tail_fault set ≡ None → IsTail set (found_from set) (footer_of set)
  pub carries : tail_fault set ≡ None → CarriesOn set (found_from set) (footer_of set)

-- the zone of the set, with that footer
abbrev pub zone_of : FixedTimespanSet → ZoneValue
zone_of set = value_of set (footer_of set)

-- As a footer the string may say otherwise than the set: where a change of the set lies past all that it says, since a footer holds from
-- the last change on and would take that back; or where daylight saving time ends in the first week of the last year, since then a
-- footer's rule may end it for the year after before the last year is over; or where it holds all that year, since the string says standard
-- time.
unfoldable pub is_contradicted : FixedTimespanSet → Bool
is_contradicted set = is_outlasting set || is_ending_early set || is_saving_on set

-- the same string, but where it may say otherwise
unfoldable pub consistent_footer : FixedTimespanSet → List ℕ
consistent_footer set = if is_contradicted set then [] else footer_of set

abbrev pub consistent_zone : FixedTimespanSet → ZoneValue
consistent_zone set = value_of set (consistent_footer set)

-- its file
abbrev pub file_of_set : FixedTimespanSet → List ℕ
file_of_set set = tzif (zone_of set)

-- why there is none
abbrev pub file_fault : FixedTimespanSet → Option WriteFault
file_fault set = write_fault (zone_of set)

-- the same with the consistent footer
abbrev pub consistent_file : FixedTimespanSet → List ℕ
consistent_file set = tzif (consistent_zone set)

abbrev pub consistent_fault : FixedTimespanSet → Option WriteFault
consistent_fault set = write_fault (consistent_zone set)

-- want of memory comes only where there is no cause, any other fault is its cause
abbrev pub IsFileFault : FileFault → Option WriteFault → Type 0
IsFileFault NoMemory fault = fault ≡ None
IsFileFault Times fault = fault ≡ Some write.Times
IsFileFault Types fault = fault ≡ Some write.Types
IsFileFault Names fault = fault ≡ Some write.Names

-- the file of that version of a zone where there is no cause, or the cause
abbrev pub MakesBy : {V : Type 0} → Version → (V → List ℕ) → ZoneValue → Result V FileFault → Type 0
MakesBy version bytes zone (Ok file) = (write_fault zone ≡ None) × (bytes file ≡ tzif_by version zone)
MakesBy version bytes zone (Err fault) = IsFileFault fault (write_fault zone)

abbrev pub MakesZone : {V : Type 0} → (V → List ℕ) → ZoneValue → Result V FileFault → Type 0
MakesZone = MakesBy Two

-- that of the set's
abbrev pub Makes : {V : Type 0} → (V → List ℕ) → FixedTimespanSet → Result V FileFault → Type 0
Makes bytes set result = MakesZone bytes (zone_of set) result
