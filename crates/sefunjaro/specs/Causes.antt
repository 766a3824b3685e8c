-- Why a call of this crate has no answer. Each call has its own causes, and no other.
use Rattle.std.specs.Prelude.{◌≡◌, ℕ, ℤ, List, Option, Result, ◌<◌, ◌≤◌, false, true, length}
use Rattle.zone_alarm.specs.Rings.{ends_in_years}
use Rattle.zone_alarm.specs.declared.ring.AlarmFault.TheVariants as alarm
use Rattle.zone_list.specs.Ranges.{all_have_dates}
use Rattle.zone_list.specs.declared.listing.ListFault.TheVariants as listed
use Rattle.zone_outside.specs.Limit.{text_limit}
use Rattle.zone_spans.specs.{Entries.{Entry}, declared.fault.SpanFault.{SpanFault}}
use Rattle.zone_spans.specs.declared.span.FixedTimespanSet as spans
use Rattle.zone_table.specs.declared.table.Table.{Table}
use Rattle.tz_lookup.specs.{Compiles.{IsZoneFault}, Databases.{names_of, first_refused, zone_refusal, IsDatabaseFault}}
use Rattle.tz_lookup.specs.declared.compile.ZoneFault.TheVariants as zone
use Rattle.tz_lookup.specs.declared.database.DatabaseFault.TheVariants as database
use Rattle.zone_tree.specs.{Told.{IsFirst}, Trees.{Refused}}
use Rattle.zone_tree.specs.declared.refusal.TreeFault.TheVariants as tree
use Rattle.sefunjaro.specs.{Faults.{IsFirstFault}, declared.error.Error.{Error}}
use Rattle.sefunjaro.specs.declared.error.Error.TheVariants as error

-- why a source has no table: it is too long; or it isn't, and a line of it is refused, or memory ran out
abbrev pub IsSourceCause : List ℕ → Error → Type 0
IsSourceCause source error.TooLong = text_limit < length source
IsSourceCause source (error.Source fault) = (length source ≤ text_limit) × IsFirstFault source fault
IsSourceCause source error.NoMemory = length source ≤ text_limit
IsSourceCause source _ = ⊥

-- why a name has no zone
abbrev pub IsZoneCause : Option (Result spans.FixedTimespanSet SpanFault) → Error → Type 0
IsZoneCause found (error.Zone zone.NoMemory) = ⊥
IsZoneCause found (error.Zone fault) = IsZoneFault found fault
IsZoneCause found error.NoMemory = Unit {0}
IsZoneCause found _ = ⊥

-- why a table has no database
abbrev pub IsDatabaseCause : Table → Error → Type 0
IsDatabaseCause table (error.Database database.NoMemory) = ⊥
IsDatabaseCause table (error.Database fault) = IsDatabaseFault (first_refused (zone_refusal table) (names_of table)) fault
IsDatabaseCause table error.NoMemory = Unit {0}
IsDatabaseCause table _ = ⊥

-- why entries aren't listed: one of them has no date
abbrev pub IsListCause : List Entry → Error → Type 0
IsListCause entries (error.List listed.Range) = all_have_dates entries ≡ false
IsListCause entries error.NoMemory = Unit {0}
IsListCause entries _ = ⊥

-- why there are no rings on so many days: the last is past the years; memory is wanting only where it isn't
abbrev pub IsAlarmCause : ℤ → ℕ → Error → Type 0
IsAlarmCause first days (error.Alarm alarm.Range) = ends_in_years first days ≡ false
IsAlarmCause first days error.NoMemory = ends_in_years first days ≡ true
IsAlarmCause first days _ = ⊥

-- why a source has no archive: the first name without an entry
abbrev pub IsTreeCause : Result (List ℕ) Refused → Error → Type 0
IsTreeCause found (error.Tree tree.NoMemory) = ⊥
IsTreeCause found (error.Tree fault) = IsFirst found fault
IsTreeCause found error.NoMemory = Unit {0}
IsTreeCause found _ = ⊥
