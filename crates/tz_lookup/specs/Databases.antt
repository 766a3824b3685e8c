-- Every zone of a table, by name.
use Rattle.std.specs.{Prelude.{◌≡◌, ◌≢◌, ◌++◌, ◌||◌, ℕ, nat_eq, Bool, List, [], ◌∷◌, filter, is_some, option_map, Option, Some, None, Result, Ok, Err, if◌then◌else◌}, Borrow.{Bor}, FinMap.{keys}, List.{starts_with}, Option.{option_or}}
use Rattle.basics.specs.{InOrder.{in_order}, Keyed.{text_cmp}}
use Rattle.zone_spans.specs.{Schedules.{is_in_offset_range, totals_of}, declared.fault.SpanFault.{SpanFault}}
use Rattle.zone_spans.specs.declared.fault.SpanFault.TheVariants as span_fault
use Rattle.zone_spans.specs.declared.span.FixedTimespanSet as spans
use Rattle.zone_table.specs.{Resolved.{resolved_in}, declared.table.Table.{Table}}
use Rattle.tz_lookup.specs.{Compiles.{compiled_in, spans_of}, declared.compile.ZoneFault.{ZoneFault}, declared.set.FixedTimespanSet.{FixedTimespanSet}, declared.database.DatabaseFault.{DatabaseFault, TheVariants.{Schedule, OffsetRange, NoMemory}}}
use Rattle.tz_lookup.specs.declared.compile.ZoneFault.TheVariants as zone_fault

-- the name finds a zone, as a link does that leads to one
abbrev pub resolves : Table → List ℕ → Bool
resolves table name = is_some (resolved_in table name)

-- the names that find a zone, in byte order, each once
unfoldable pub names_of : Table → List (List ℕ)
names_of table = in_order text_cmp (filter (resolves table) (keys table.zonesets ++ keys table.links))

-- a name beside what it finds
abbrev pub Named : Type 0
Named = List ℕ × Option (Result spans.FixedTimespanSet SpanFault)

-- what a name finds in a table
unfoldable pub found_in : Table → List ℕ → Named
found_in table name = (name, compiled_in table name)

-- what a set's name found
abbrev pub found_as : FixedTimespanSet → Named
found_as set = (set.name, Some (Ok (spans_of set)))

-- why what was found can't be looked up, if so
abbrev pub refusal_of : Option (Result spans.FixedTimespanSet SpanFault) → Option ZoneFault
refusal_of None = Some zone_fault.UnknownZone
refusal_of (Some (Err fault)) = Some (zone_fault.Schedule fault)
refusal_of (Some (Ok set)) = if is_in_offset_range (totals_of set) then None else Some zone_fault.OffsetRange

-- why a name's zone can't be looked up, if so
unfoldable pub zone_refusal : Table → List ℕ → Option ZoneFault
zone_refusal table name = refusal_of (compiled_in table name)

-- the first of some names that is refused, and why
abbrev pub first_refused : (List ℕ → Option ZoneFault) → List (List ℕ) → Option (List ℕ × ZoneFault)
first_refused refusal [] = None
first_refused refusal (name ∷ names) = option_or (option_map (λ fault. (name, fault)) (refusal name)) (first_refused refusal names)

-- this is the first name that is refused, and why; want of memory may come in place of any
abbrev pub IsDatabaseFault : Option (List ℕ × ZoneFault) → DatabaseFault → Type 0
IsDatabaseFault first (Schedule name fault) = (first ≡ Some (name, zone_fault.Schedule fault)) × (fault ≢ span_fault.NoMemory)
IsDatabaseFault first (OffsetRange name) = first ≡ Some (name, zone_fault.OffsetRange)
IsDatabaseFault first NoMemory = Unit {0}

-- the part stands somewhere in the text
abbrev pub has_part : List ℕ → List ℕ → Bool
has_part part [] = starts_with nat_eq [] part
has_part part (byte ∷ bytes) = starts_with nat_eq (byte ∷ bytes) part || has_part part bytes

abbrev pub name_shown : Bor (List ℕ) → List ℕ
name_shown name = name.now
