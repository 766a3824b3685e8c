-- What was written of the due bytes.
use Rattle.std.specs.Prelude.{◌≡◌, ℕ, List, [], ◌∷◌, ◌++◌, IsSomeAnd, ◌⊎◌}
use Rattle.zone_outside.specs.{Outside.{Rose}, Seen.{OutputSeen, Grew, GrewBySome}}
use Rattle.zone_file_answers.specs.{Due.{AreAnswers, IsFaultLine}, Faults.{fault_line}, Told.{fault_told}, declared.fault.FileFault.{FileFault}}
use Rattle.zone_source.specs.{Runs.{Writes}, declared.running.Answered.{Answered}, declared.running.Answered.TheVariants.{Done, Fault, Failed, NoMemory}, declared.running.Status.{Status}}
use Rattle.zone_source.specs.declared.running.Status.TheVariants as status

-- all of some bytes were written that are due
pub record Wrote (Is : List ℕ → Type 0) (before now : OutputSeen) : Type 0 where
  pub bytes : List ℕ
  pub due : Is bytes
  pub grew : Grew before now bytes

-- a first part of them
pub record WroteSome (Is : List ℕ → Type 0) (before now : OutputSeen) : Type 0 where
  pub bytes : List ℕ
  pub due : Is bytes
  pub grew : GrewBySome before now bytes

-- the lines or the line of the fault
abbrev pub IsDue : List ℕ → List ℕ → List ℕ → Type 0
IsDue source requests bytes = AreAnswers source requests bytes ⊎ IsFaultLine source requests bytes

-- what was due was written: the lines, or the fault's line; or memory ran out
abbrev pub IsByTexts : Status → Type 0
IsByTexts end = (end ≡ status.Done) ⊎ ((end ≡ status.Fault) ⊎ (end ≡ status.NoMemory))

-- what is written of a file and its requests
abbrev pub writes : Writes
writes = record {
  lines = λ file requests. Wrote (AreAnswers file requests);
  fault = λ file requests. Wrote (IsFaultLine file requests);
  part = λ file requests. WroteSome (IsDue file requests);
  ends = λ file requests. IsByTexts;
}

abbrev pub IsLineOf : FileFault → List ℕ → Type 0
IsLineOf fault bytes = IsSomeAnd (fault_told fault) (λ f. bytes ≡ fault_line f ++ 10 ∷ [])

-- what was written of a fault
abbrev pub RespondsFault : FileFault → OutputSeen → OutputSeen → Answered → Type 0
RespondsFault fault before now Done = ⊥
RespondsFault fault before now Fault = Wrote (IsLineOf fault) before now
RespondsFault fault before now Failed = Rose before.faults now.faults × WroteSome (IsLineOf fault) before now
RespondsFault fault before now NoMemory = now ≡ before
