-- The fault that an error tells; want of memory tells none.
use Rattle.std.specs.Prelude.{◌≡◌, Option, Some, None, MatchOption, option_map}
use Rattle.zone_table.specs.Faults.{fault_of}
use Rattle.zone_source.specs.{Faults.{SourceFault, not_text, bad_line, bad_join}, declared.error.SourceError.{SourceError}}
use Rattle.zone_source.specs.declared.error.SourceError.TheVariants as error

abbrev pub told_by_source : SourceError → Option SourceFault
told_by_source (error.NotText n) = Some (not_text n)
told_by_source (error.Line n e) = option_map (bad_line n) (fault_of e)
told_by_source (error.Build n kind) = Some (bad_join n kind)
told_by_source error.NoMemory = None

-- the error tells the fault that was found; it tells none only as want of memory, so no line's error is that
abbrev pub IsTold : {F E : Type 0} → (E → Option F) → E → Option F → E → Type 0
IsTold told no_memory found e = MatchOption (told e) (e ≡ no_memory) (λ f. found ≡ Some f)

abbrev pub TellsOfSource : Option SourceFault → SourceError → Type 0
TellsOfSource found e = IsTold told_by_source error.NoMemory found e
