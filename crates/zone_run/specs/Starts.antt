-- How a program over one zone ends that was started.
use Rattle.std.specs.Prelude.{ℕ, List, Option}
use Rattle.zone_run.specs.{Asked.{Asked}, Ends.{EndsWith}, Readings.{Reading, Spans, to_2099}, Tasks.{task_of}}
use Rattle.zone_source.specs.{Starts.{Run, Starts, over_file}, declared.starting.Started.{Started}}

-- how a run ends of the program of this label, whose words after FILE and NAME are in this form
abbrev pub zone_run : Reading Spans → List ℕ → (List (List ℕ) → Option Asked) → Run
zone_run read label form = over_file (λ words. EndsWith read label (task_of form words))

abbrev pub StartsWith : Reading Spans → List ℕ → (List (List ℕ) → Option Asked) → Started → Type 0
StartsWith read label form started = Starts (zone_run read label form) started

-- where zones are read to the year 2099
abbrev pub StartsZone : List ℕ → (List (List ℕ) → Option Asked) → Started → Type 0
StartsZone label form started = StartsWith to_2099 label form started
