-- Why a source isn't opened.
use Rattle.std.specs.Prelude.{◌≡◌, ◌<◌, ◌≤◌, ℕ, List, IsSome, length}
use Rattle.zone_source.specs.{Faults.{source_fault}, Told.{told_by_source}, declared.error.SourceError.{SourceError}}
use Rattle.sefunjaro.specs.declared.source.OpenFault.{OpenFault, TheVariants.{TooLong, Source, NoMemory}}

-- this is the first fault of a source, and not want of memory
pub record IsFirstFault (text : List ℕ) (error : SourceError) : Type 0 where
  pub told : IsSome (told_by_source error)
  pub first : source_fault text ≡ told_by_source error

-- it is too long, or has this first fault; of a text that isn't too long, want of memory may come in place of any fault
abbrev pub IsOpenFault : List ℕ → OpenFault → Type 0
IsOpenFault text TooLong = 16777216 < length text
IsOpenFault text (Source error) = (length text ≤ 16777216) × IsFirstFault text error
IsOpenFault text NoMemory = length text ≤ 16777216

-- the same of a text that isn't too long
abbrev pub IsReadFault : List ℕ → OpenFault → Type 0
IsReadFault text TooLong = ⊥
IsReadFault text (Source error) = IsFirstFault text error
IsReadFault text NoMemory = Unit {0}
