-- Why a zone that was opened from a source isn't there is why its offset isn't.
use Rattle.std.{proofs.Common.{◌≡◌, ℕ, List, Result, Ok, Err, IfErr, sym, subst}, specs.Result.{IsErrAnd}}
use Rattle.tz_lookup.specs.{Compiles.{compiled_in, IsZoneFault}, declared.compile.ZoneFault.{ZoneFault}}
use Rattle.tz_lookup.specs.declared.compile.ZoneFault.TheVariants as zone
use Rattle.sefunjaro.specs.{AnySources.{IsAnySource}, Errors.{of_zone}, Sources.{table_in}, declared.error.Error.{Error}, declared.source.OpenSource.{OpenSource}}
use Rattle.zone_uses.specs.Causes.{IsOffsetCause}

of_fault : (text name : List ℕ) (source : OpenSource) (fault : ZoneFault) → IsAnySource text source
    → IsZoneFault (compiled_in (table_in source) name) fault → IsOffsetCause text name (of_zone fault)
of_fault text name source zone.UnknownZone is cause = record { source = source; is_source = is; cause = cause }
of_fault text name source (zone.Schedule fault) is cause = record { source = source; is_source = is; cause = cause }
of_fault text name source zone.OffsetRange is cause = record { source = source; is_source = is; cause = cause }
of_fault text name source zone.NoMemory is cause = is.short

pub zone_cause : {A : Type 0} (found : Result A Error) (text name : List ℕ) (source : OpenSource) (fault : ZoneFault)
    → IsErrAnd found (λ error. error ≡ of_zone fault) → IsAnySource text source
    → IsZoneFault (compiled_in (table_in source) name) fault → IfErr found (IsOffsetCause text name)
zone_cause (Ok offset) text name source fault is_of is cause = tt
zone_cause (Err error) text name source fault is_of is cause =
    subst (λ e. IsOffsetCause text name e) (sym is_of) (of_fault text name source fault is cause)
