-- How a run ends of a program over one zone.
use Rattle.std.specs.Prelude.{ℕ, List, Option}
use Rattle.zone_source.specs.{Runs.{Seen, Work, EndsOf}, declared.running.Status.{Status}}
use Rattle.zone_run.specs.{Causes.{Cause, cause}, Due.{due_bytes}, Readings.{Reading, Spans, to_2099}, Tasks.{Task}}

-- what the program of this label does with a task where zones are read in this way
abbrev pub work : Reading Spans → List ℕ → Work Task Cause
work read label = record { file = λ task. task.file; cause = cause read; due = due_bytes read label }

-- how a run of the program of this label ended, whose words ask this
abbrev pub EndsWith : Reading Spans → List ℕ → Option Task → Seen → Seen → Status → Type 0
EndsWith read label task before now end = EndsOf (work read label) task before now end

-- where zones are read to the year 2099
abbrev pub Ends : List ℕ → Option Task → Seen → Seen → Status → Type 0
Ends label task before now end = EndsWith to_2099 label task before now end
