-- How the command begins and ends.
use Rattle.std.specs.{Prelude.{◌≡◌, ◌⊎◌, ℕ, List, None, map, String, string_bytes}, Process.{exit_status}, declared.alloc.Global.{Global}}
use Rattle.zone_command.specs.{Due.{Answers, Makings}, Ends.{EndsZone, Seen}, declared.starting.ZoneStarted.{ZoneStarted}}
use Rattle.zone_source.specs.{Statuses.{code_of}, declared.running.Status.{Status}}
use Rattle.zone_words.specs.Words.{words_in}

-- the real files, clock, environment and streams, which tell no content, before anything has called them
abbrev pub fresh : Seen
fresh = record {
  read = record {
    shelf = record { told = λ _. None; left = None; given = 0; faults = 0 };
    clock = record { told = None; faults = 0 };
    environment = record { told = None; faults = 0 };
  };
  written = record {
    exchange = record { done = None; left = None; read_faults = 0; write_faults = 0 };
    errors = record { taken = None; faults = 0 };
  };
}

abbrev pub exit_of : ZoneStarted → ℕ
exit_of started = exit_status started.code

-- a run was made with these words, and its status is the exit status
abbrev pub HasRun : Answers → Makings → List (String Global) → ZoneStarted → Type 0
HasRun due makes words started =
    (now : Seen) × (end : Status) × EndsZone due makes (words_in (map string_bytes words)) fresh now end × (exit_of started ≡ code_of end)

-- 7 where the words can't be taken; else the status of the run with the words after the program's own name
abbrev pub StartsZone : Answers → Makings → ZoneStarted → Type 0
StartsZone due makes started = (exit_of started ≡ 7) ⊎ ((words : List (String Global)) × HasRun due makes words started)
