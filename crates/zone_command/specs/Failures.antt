-- Why a run has no answer, and what is due of that on standard error.
use Rattle.std.specs.Prelude.{ℕ, List, [], ◌∷◌, ◌++◌, codes, if◌then◌else◌}
use Rattle.zone_command.specs.Refusals.{name_words, told_line}
use Rattle.zone_words.specs.{declared.running.StreamEnd.{StreamEnd}, FaultLines.{fault_line}, Faults.{Fault}, Told.{is_of_time}}
use Rattle.zone_words.specs.declared.running.StreamEnd.TheVariants as stream
use Rattle.zone_source.specs.declared.running.Status.{Status}
use Rattle.zone_source.specs.declared.running.Status.TheVariants as status

pub data Failure : Type 0 where
  -- the line that tells why there is none over the source
  refuses : List ℕ → Failure
  -- the words ask nothing
  bad_words : Fault → Failure
  clock_fails : Failure
  environment_fails : Failure
  -- the file of that name can't be read, or is too long
  file_fails : List ℕ → Failure
  file_long : List ℕ → Failure
  no_memory : Failure

-- what is due on standard error
unfoldable pub errors_of : Failure → List ℕ
errors_of (refuses line) = line
errors_of (bad_words fault) = fault_line fault
errors_of clock_fails = codes "zone: the clock can't be read" ++ 10 ∷ []
errors_of environment_fails = codes "zone: the value of SEFUNJARO_TZDATA can't be read" ++ 10 ∷ []
errors_of (file_fails file) = told_line (name_words file (codes "this file can't be read"))
errors_of (file_long file) = told_line (name_words file (codes "this file has more than 16,777,216 bytes"))
errors_of no_memory = codes "zone: out of memory" ++ 10 ∷ []

-- the status: 1 for words in no form, 2 for times and for what the source says, 3, 5, 6
abbrev pub status_of : Failure → Status
status_of (refuses line) = status.Fault
status_of (bad_words fault) = if is_of_time fault.cause then status.Fault else status.Words
status_of clock_fails = status.Read
status_of environment_fails = status.Read
status_of (file_fails file) = status.Read
status_of (file_long file) = status.TooLong
status_of no_memory = status.NoMemory

-- what is due on standard error where requests or a log were answered, and the status; the answers tell faults of requests
unfoldable pub errors_at : StreamEnd → List ℕ
errors_at stream.Done = []
errors_at stream.Fault = []
errors_at stream.Read = codes "zone: standard input can't be read" ++ 10 ∷ []
errors_at stream.Write = []
errors_at stream.NoMemory = codes "zone: out of memory" ++ 10 ∷ []
errors_at stream.TooLong = codes "zone: standard input is too long" ++ 10 ∷ []

abbrev pub status_at : StreamEnd → Status
status_at stream.Done = status.Done
status_at stream.Fault = status.Fault
status_at stream.Read = status.Read
status_at stream.Write = status.Write
status_at stream.NoMemory = status.NoMemory
status_at stream.TooLong = status.TooLong
