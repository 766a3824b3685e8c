-- What the values of the code show.
use Rattle.std.specs.{Borrow.{Bor}, Prelude.{◌≡◌, ℕ, ℤ, true, List, map, Option, Some, None, is_some, Result, Ok, Err, string_bytes}}
use Rattle.zone_tzif_core.specs.{Zones.{KindValue, ZoneValue}, declared.values.Kind.{Kind}, declared.values.TzifZone.{TzifZone}, declared.values.ReadFault.{ReadFault}, declared.values.ReadFault.TheVariants.{Refused, NoMemory}, declared.kinds.Record.{Record}}

abbrev pub kind_shown : Kind → KindValue
kind_shown kind = record { utoff = kind.utoff; is_dst = kind.is_dst; name = string_bytes kind.name }

abbrev pub record_shown : Record → KindValue
record_shown kind = record { utoff = kind.utoff; is_dst = kind.is_dst; name = kind.name.now }

abbrev pub shift_shown : (ℤ × Kind) → ℤ × KindValue
shift_shown shift = (shift.0, kind_shown shift.1)

abbrev pub shifts_shown : List (ℤ × Kind) → List (ℤ × KindValue)
shifts_shown shifts = map shift_shown shifts

abbrev pub zone_shown : TzifZone → ZoneValue
zone_shown zone = record { first = kind_shown zone.first; rest = shifts_shown zone.rest.items; footer = string_bytes zone.footer }

-- a reader refuses only where there is nothing
abbrev pub Faults : {W : Type 0} → ReadFault → Option W → Type 0
Faults Refused answer = None ≡ answer
Faults NoMemory answer = Unit {0}

-- a reader tells what it found, or that there is nothing, or that it had no memory
abbrev pub TellsFound : {V W : Type 0} → (V → W) → Result V ReadFault → Option W → Type 0
TellsFound shown (Ok value) answer = Some (shown value) ≡ answer
TellsFound shown (Err fault) answer = Faults fault answer

-- the same, and it had no memory only where there is something
abbrev pub FaultsExactly : {W : Type 0} → ReadFault → Option W → Type 0
FaultsExactly Refused answer = None ≡ answer
FaultsExactly NoMemory answer = true ≡ is_some answer

abbrev pub TellsExactly : {V W : Type 0} → (V → W) → Result V ReadFault → Option W → Type 0
TellsExactly shown (Ok value) answer = Some (shown value) ≡ answer
TellsExactly shown (Err fault) answer = FaultsExactly fault answer

-- the value of the result is what the bytes are, no value is where they are refused, and some value is where memory was wanting
abbrev pub ReadsAs : {V : Type 0} → (V → ZoneValue) → (ZoneValue → Type 0) → Result V ReadFault → Type 0
ReadsAs shown Is (Ok zone) = Is (shown zone)
ReadsAs shown Is (Err Refused) = (zone : ZoneValue) → ¬ (Is zone)
ReadsAs shown Is (Err NoMemory) = (zone : ZoneValue) × Is zone

abbrev pub Reads : (ZoneValue → Type 0) → Result TzifZone ReadFault → Type 0
Reads = ReadsAs zone_shown

-- kinds and names that are borrowed
abbrev pub kinds_seen : List (Bor Kind) → List KindValue
kinds_seen kinds = map (λ kind. kind_shown kind.now) kinds

abbrev pub names_seen : List (Bor (List ℕ)) → List (List ℕ)
names_seen names = map (λ name. name.now) names
