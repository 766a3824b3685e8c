-- How a run over made texts ends.
use Rattle.std.specs.Prelude.{◌≡◌, ◌≢◌, ◌⊎◌, ℕ, List, Option, None}
use Rattle.zone_outside.specs.{Outside.{Rose}, Seen.{OutputSeen, Grew, GrewBySome}}
use Rattle.zone_source.specs.{Statuses.{EndsBy}, Runs.{Seen}, declared.running.Status.{Status}}
use Rattle.zone_source.specs.declared.running.Status.TheVariants as status
use Rattle.zone_answers.specs.{Faults.{Fault, fault}, Made.{made_source, made_requests}, Summary.{due_summary}}

-- the first fault of the texts that are made from a number
abbrev pub made_fault : ℕ → Option Fault
made_fault count = fault (made_source count) (made_requests count)

-- what is due for them: the summary of their answers, or the line of their fault
abbrev pub made_due : ℕ → List ℕ
made_due count = due_summary (made_source count) (made_requests count)

-- what was written for them, and the status by it
pub record WritesMade (count : ℕ) (before now : OutputSeen) (end : Status) : Type 0 where
  -- 0, 2, 4 or 5
  pub statuses : (end ≡ status.Done) ⊎ ((end ≡ status.Fault) ⊎ ((end ≡ status.Write) ⊎ (end ≡ status.NoMemory)))
  -- 0 and 2: what is due was written
  pub done : end ≡ status.Done → (made_fault count ≡ None) × Grew before now (made_due count)
  pub refused : end ≡ status.Fault → (made_fault count ≢ None) × Grew before now (made_due count)
  -- 4: a call of the output failed, after a first part of what is due
  pub write : end ≡ status.Write → Rose before.faults now.faults × GrewBySome before now (made_due count)
  -- 5: nothing was written
  pub memory : end ≡ status.NoMemory → now ≡ before
  -- where no call of the output fails, the status is by the fault, or memory ran out
  pub complete : ¬ (Rose before.faults now.faults) → EndsBy (made_fault count) end

-- how a run ended that was asked for the texts made from this number
pub record Generated (count : ℕ) (before now : Seen) (end : Status) : Type 0 where
  -- neither the shelf nor the input is touched
  pub shelf : now.shelf ≡ before.shelf
  pub input : now.input ≡ before.input
  pub writes : WritesMade count before.output now.output end
