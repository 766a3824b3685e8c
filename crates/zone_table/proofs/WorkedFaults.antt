-- The kinds of faults, their names and what they show, at worked rows.
use Rattle.std.{proofs.Common.{◌≡◌, List, [], ◌∷◌, ◌++◌, map, Some, None, refl}, specs.Prelude.{codes, string_bytes}, specs.declared.alloc.Global.{Global}, specs.declared.string.String.{String}}
use Rattle.zone_table.specs.{Faults.{fault_name, fault_of, refused, told_text}, declared.fault.FaultKind.{FaultKind}, declared.fault.FaultKind.TheVariants.{FailedYearParse, FailedMonthParse, FailedWeekdayParse, InvalidLineType, TypeColumnContainedNonHyphen, CouldNotParseSaving, InvalidDaySpec, InvalidTimeSpecAndType, NonWallClockInTimeSpec}}
use Rattle.zone_table.specs.declared.line_error.Error.TheVariants as error

abbrev kinds : List FaultKind
kinds = FailedYearParse ∷ FailedMonthParse ∷ FailedWeekdayParse ∷ InvalidLineType ∷ TypeColumnContainedNonHyphen
    ∷ CouldNotParseSaving ∷ InvalidDaySpec ∷ InvalidTimeSpecAndType ∷ NonWallClockInTimeSpec ∷ []

names : map fault_name kinds ≡ codes "FailedYearParse" ∷ codes "FailedMonthParse" ∷ codes "FailedWeekdayParse" ∷ codes "InvalidLineType"
    ∷ codes "TypeColumnContainedNonHyphen" ∷ codes "CouldNotParseSaving" ∷ codes "InvalidDaySpec" ∷ codes "InvalidTimeSpecAndType"
    ∷ codes "NonWallClockInTimeSpec" ∷ []
names = refl

-- a month and a weekday are shown in lower case, and nothing else
texts : map (λ kind. told_text kind (codes "aB")) kinds ≡ codes "aB" ∷ codes "ab" ∷ codes "ab" ∷ codes "aB" ∷ codes "aB" ∷ codes "aB"
    ∷ codes "aB" ∷ codes "aB" ∷ codes "aB" ∷ []
texts = refl

module _ (text : String Global) where
  -- each error tells its own kind with its text, and want of memory none
  told : map fault_of (error.FailedYearParse text ∷ error.FailedMonthParse text ∷ error.FailedWeekdayParse text
      ∷ error.InvalidLineType text ∷ error.TypeColumnContainedNonHyphen text ∷ error.CouldNotParseSaving text
      ∷ error.InvalidDaySpec text ∷ error.InvalidTimeSpecAndType text ∷ error.NonWallClockInTimeSpec text ∷ error.NoMemory ∷ [])
      ≡ map (λ kind. Some (refused kind (string_bytes text))) kinds ++ None ∷ []
  told = refl
