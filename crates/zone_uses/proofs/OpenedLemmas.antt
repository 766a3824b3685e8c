-- A zone opened from a table is opened from the source of that table.
use Rattle.std.proofs.Common.{◌≡◌, ◌≤◌, ℕ, List, length, None, Result, Ok, Err, IfOk, IfErr, OnOk}
use Rattle.zone_outside.specs.Limit.{text_limit}
use Rattle.zone_source.specs.{Faults.{source_fault}, Zones.{values_of}}
use Rattle.zone_table.specs.{Tables.{IsTableOf}, declared.table.Table.{Table}}
use Rattle.tz_lookup.specs.{CompactShown.{seen}, Compiles.{compiled_in, IsCompiledAs}, declared.compact_set.CompactSet.{CompactSet}}
use Rattle.sefunjaro.specs.{Causes.{IsZoneCause}, declared.error.Error.{Error}}
use Rattle.sefunjaro.specs.declared.error.Error.TheVariants as error
use Rattle.tz_lookup.specs.declared.compile.ZoneFault.TheVariants as zone
use Rattle.zone_uses.specs.{Causes.{IsOpenCause}, Opened.{IsOpened}}

pub opened_from : (source name : List ℕ) (table : Table) (found : Result CompactSet Error) → IsTableOf table (values_of source)
    → IfOk found (λ set. (seen set).name ≡ name)
    → IfOk found (λ set. IsCompiledAs (seen set) (compiled_in table name)) → IfOk found (IsOpened source name)
opened_from source name table (Ok set) h named compiled =
    record { table = table; is_table = h; is_named = named; is_compiled = compiled }
opened_from source name table (Err error) h named compiled = tt

pub whatever_is_found : {P : Type 0} (found : Result CompactSet Error) → P → OnOk found P
whatever_is_found (Ok set) h = h
whatever_is_found (Err error) h = tt

pub cause_from : (source name : List ℕ) (table : Table) (found : Result CompactSet Error) → length source ≤ text_limit → source_fault source ≡ None
    → IsTableOf table (values_of source) → IfErr found (IsZoneCause (compiled_in table name)) → IfErr found (IsOpenCause source name)
cause_from source name table (Ok set) short valid h cause = tt
cause_from source name table (Err (error.Zone zone.UnknownZone)) short valid h cause =
    record { short = short; valid = valid; table = table; is_table = h; cause = cause }
cause_from source name table (Err (error.Zone (zone.Schedule fault))) short valid h cause =
    record { short = short; valid = valid; table = table; is_table = h; cause = cause }
cause_from source name table (Err (error.Zone zone.OffsetRange)) short valid h cause =
    record { short = short; valid = valid; table = table; is_table = h; cause = cause }
cause_from source name table (Err (error.Zone zone.NoMemory)) short valid h cause = absurd cause
cause_from source name table (Err error.NoMemory) short valid h cause = short
cause_from source name table (Err error.TooLong) short valid h cause = absurd cause
cause_from source name table (Err error.Parser) short valid h cause = absurd cause
cause_from source name table (Err (error.Source fault)) short valid h cause = absurd cause
cause_from source name table (Err (error.Line n c)) short valid h cause = absurd cause
cause_from source name table (Err error.PlainTooLong) short valid h cause = absurd cause
cause_from source name table (Err (error.Plain fault)) short valid h cause = absurd cause
cause_from source name table (Err (error.Set fault)) short valid h cause = absurd cause
cause_from source name table (Err (error.Database fault)) short valid h cause = absurd cause
cause_from source name table (Err (error.List fault)) short valid h cause = absurd cause
cause_from source name table (Err (error.Alarm fault)) short valid h cause = absurd cause
cause_from source name table (Err (error.Tail fault)) short valid h cause = absurd cause
cause_from source name table (Err (error.EverTail fault)) short valid h cause = absurd cause
cause_from source name table (Err (error.Tzif fault)) short valid h cause = absurd cause
cause_from source name table (Err (error.Tree fault)) short valid h cause = absurd cause
cause_from source name table (Err (error.File fault)) short valid h cause = absurd cause
cause_from source name table (Err (error.FileZone fault)) short valid h cause = absurd cause
cause_from source name table (Err error.Posix) short valid h cause = absurd cause
