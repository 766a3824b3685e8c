-- The exit status of a program, and what it says.
use Rattle.std.specs.Prelude.{◌≡◌, ◌⊎◌, ℕ, Option, Some, None}
use Rattle.zone_outside.specs.declared.outside.ReadEnd.{ReadEnd}
use Rattle.zone_outside.specs.declared.outside.ReadEnd.TheVariants as end
use Rattle.zone_source.specs.declared.running.Status.{Status, TheVariants.{Done, Words, Fault, Read, Write, NoMemory, TooLong}}

abbrev pub code_of : Status → ℕ
code_of Done = 0
code_of Words = 1
code_of Fault = 2
code_of Read = 3
code_of Write = 4
code_of NoMemory = 5
code_of TooLong = 6

-- how a run ends where a text was not read to its end
abbrev pub status_of : ReadEnd → Status
status_of end.Failed = Read
status_of end.TooLong = TooLong
status_of end.NoMemory = NoMemory

-- without a cause the answer was written, with one its line; or memory ran out
abbrev pub EndsBy : {C : Type 0} → Option C → Status → Type 0
EndsBy None end = (end ≡ Done) ⊎ (end ≡ NoMemory)
EndsBy (Some c) end = (end ≡ Fault) ⊎ (end ≡ NoMemory)

-- a text was too long, or memory ran out
abbrev pub IsPastLimit : Status → Type 0
IsPastLimit end = (end ≡ TooLong) ⊎ (end ≡ NoMemory)

-- something may be written by this status
abbrev pub IsWritten : Status → Type 0
IsWritten end = (end ≡ Done) ⊎ ((end ≡ Fault) ⊎ (end ≡ Write))

-- nothing is written by this status
abbrev pub IsSilent : Status → Type 0
IsSilent end = (end ≡ Words) ⊎ ((end ≡ Read) ⊎ ((end ≡ NoMemory) ⊎ (end ≡ TooLong)))
