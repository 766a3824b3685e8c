-- How a program begins and ends: the words after its own name, a run over the real files and streams, the exit status.
use Rattle.std.specs.{Prelude.{◌≡◌, ◌⊎◌, ℕ, List, drop, String, None}, Process.{exit_status}, declared.alloc.Global.{Global}}
use Rattle.zone_source.specs.{Runs.{Seen, no_input}, Statuses.{code_of}, declared.starting.Started.{Started}, declared.running.Status.{Status}}

abbrev pub Words : Type 0
Words = List (String Global)

-- how a run of a program ends: its words, what is seen before it and after it, and the status
abbrev pub Run : Type 1
Run = Words → Seen → Seen → Status → Type 0

-- without the input
abbrev pub without_input : Seen → Seen
without_input all = record { shelf = all.shelf; input = no_input; output = all.output }

-- how a run over one file ends, which leaves the input alone
abbrev pub over_file : (Words → Seen → Seen → Status → Type 0) → Run
over_file ends words before now end = ends words (without_input before) (without_input now) end × (now.input ≡ before.input)

-- the real files and streams, which tell no content, before anything has called them: nothing was given, and nothing failed
abbrev pub fresh : Seen
fresh = record {
  shelf = record { told = λ _. None; left = None; given = 0; faults = 0 };
  input = record { left = None; given = 0; faults = 0 };
  output = record { taken = None; faults = 0 };
}

-- the words after the program's own name, of all that the system gives
abbrev pub words_after : Words → Words
words_after all = drop 1 all

-- the exit status of a program that was started
abbrev pub exit_of : Started → ℕ
exit_of started = exit_status started.code

-- the program ran with these words over the real files and streams, and its exit status is that of the run
abbrev pub HasRun : Run → Words → Started → Type 0
HasRun ends words started = (now : Seen) × (end : Status) × ends words fresh now end × (exit_of started ≡ code_of end)

-- 7: the words can't be taken
abbrev pub HasNoWords : Started → Type 0
HasNoWords started = exit_of started ≡ 7

-- 8: the parser can't be built
abbrev pub HasNoParser : Started → Type 0
HasNoParser started = exit_of started ≡ 8

-- how a program without a parser ends that was started: it ran, with what words there were
abbrev pub StartsBare : Run → Started → Type 0
StartsBare ends started = HasNoWords started ⊎ ((words : Words) × HasRun ends words started)

-- how a program with a parser ends that was started
abbrev pub Starts : Run → Started → Type 0
Starts ends started = HasNoWords started ⊎ (HasNoParser started ⊎ ((words : Words) × HasRun ends words started))
