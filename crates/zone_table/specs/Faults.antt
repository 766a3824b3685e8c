-- What is wrong with a line: a kind, and the text that is refused.
use Rattle.std.specs.{Prelude.{◌≡◌, ℕ, List, [], ◌∷◌, get_or, Option, Some, None, Result, Ok, Err, IfSome, string_bytes, codes}, Result.{result_map_both}}
use denote.Enum.Declared.{tag_of as place_among}
use Rattle.zone_table.specs.{Names.{lower}, contracts.fault.FaultKind.{the_type as kinds}, declared.line_error.Error.{Error}, declared.fault.FaultKind.{FaultKind}, declared.fault.FaultKind.TheVariants.{FailedYearParse, FailedMonthParse, FailedWeekdayParse, InvalidLineType, TypeColumnContainedNonHyphen, CouldNotParseSaving, InvalidDaySpec, InvalidTimeSpecAndType, NonWallClockInTimeSpec}}
use Rattle.zone_table.specs.declared.line_error.Error.TheVariants as error
use Rattle.zone_table.specs.declared.fault.Fault as code

pub record Fault : Type 0 where
  pub kind : FaultKind
  pub text : List ℕ

-- this text is none of that kind
abbrev pub refused : FaultKind → List ℕ → Fault
refused kind text = record { kind = kind; text = text }

-- the names of the kinds, in the order of the variants
abbrev pub fault_names : List (List ℕ)
fault_names =
    codes "FailedYearParse" ∷ codes "FailedMonthParse" ∷ codes "FailedWeekdayParse" ∷ codes "InvalidLineType"
    ∷ codes "TypeColumnContainedNonHyphen" ∷ codes "CouldNotParseSaving" ∷ codes "InvalidDaySpec" ∷ codes "InvalidTimeSpecAndType"
    ∷ codes "NonWallClockInTimeSpec" ∷ []

abbrev pub fault_name : FaultKind → List ℕ
fault_name kind = get_or fault_names (place_among kinds kind) []

-- the fault that an error tells; want of memory tells none
abbrev pub fault_of : Error → Option Fault
fault_of (error.FailedYearParse text) = Some (refused FailedYearParse (string_bytes text))
fault_of (error.FailedMonthParse text) = Some (refused FailedMonthParse (string_bytes text))
fault_of (error.FailedWeekdayParse text) = Some (refused FailedWeekdayParse (string_bytes text))
fault_of (error.InvalidLineType text) = Some (refused InvalidLineType (string_bytes text))
fault_of (error.TypeColumnContainedNonHyphen text) = Some (refused TypeColumnContainedNonHyphen (string_bytes text))
fault_of (error.CouldNotParseSaving text) = Some (refused CouldNotParseSaving (string_bytes text))
fault_of (error.InvalidDaySpec text) = Some (refused InvalidDaySpec (string_bytes text))
fault_of (error.InvalidTimeSpecAndType text) = Some (refused InvalidTimeSpecAndType (string_bytes text))
fault_of (error.NonWallClockInTimeSpec text) = Some (refused NonWallClockInTimeSpec (string_bytes text))
fault_of error.NoMemory = None

-- the call gave the value, or told its fault, or memory ran out
abbrev pub Tells : {A B : Type 0} → (A → B) → Result A Error → Result B Fault → Type 0
Tells shown (Ok x) value = value ≡ Ok (shown x)
Tells shown (Err e) value = IfSome (fault_of e) (λ fault. value ≡ Err fault)

-- how a fault shows the text that it refuses: a month or a weekday in ASCII lower case, another as it stands
abbrev pub told_text : FaultKind → List ℕ → List ℕ
told_text FailedMonthParse text = lower text
told_text FailedWeekdayParse text = lower text
told_text _ text = text

-- what the code's fault shows
abbrev pub fault_shown : code.Fault → Fault
fault_shown fault = refused fault.kind (told_text fault.kind fault.text.now)

abbrev pub told : {A B : Type 0} → (A → B) → Result A code.Fault → Result B Fault
told shown result = result_map_both shown fault_shown result
