-- How a run ended.
use Rattle.std.specs.Prelude.{◌≡◌, ◌⊎◌, ◌≤◌, ℕ, Bool, true, false, List, [], Option, Some, None, Ok, Err, IfSome, IsErrAnd, IsOkAnd, MatchOption, ℤ, pos, codes, length, ◌==◌, if◌then◌else◌}
use Rattle.civil_base.specs.Ranges.{is_in_years}
use Rattle.zone_command.specs.{Bare.{bare}, Due.{Answers, Makings}, Failures.{Failure, refuses, bad_words, clock_fails, environment_fails, file_fails, file_long, no_memory, errors_at, errors_of, status_at, status_of}, Times.{asks_now}}
use Rattle.zone_outside.specs.{Exchanges.{ExchangeSeen, Wrote, WrotePart}, Limit.{text_limit}, Outside.{Rose, TooMuch}, Seen.{ShelfSeen, OutputSeen, Grew, GrewBySome}}
use Rattle.zone_words.specs.{Filters.{Made}, Runs.{Ends}, declared.running.StreamEnd.{StreamEnd}, Faults.{Reading}, Tasks.{TaskAsked, WordsAsked, stream, log}}
use Rattle.zone_source.specs.declared.running.Status.{Status}
use Rattle.zone_source.specs.declared.running.Status.TheVariants as status

-- ---- what is read

-- the nanoseconds from 1970-01-01 00:00:00 UTC that a clock tells, where that is known, and its faults
pub record ClockSeen : Type 0 where
  pub told : Option ℕ
  pub faults : ℕ

-- the values of variables, where they are known, and the faults
pub record EnvironmentSeen : Type 0 where
  pub told : Option (List ℕ → Option (List ℕ))
  pub faults : ℕ

pub record InSeen : Type 0 where
  pub shelf : ShelfSeen
  pub clock : ClockSeen
  pub environment : EnvironmentSeen

-- the file of the source: the value of a variable, if it has bytes, else the system's
abbrev pub file_of : Option (List ℕ) → List ℕ
file_of None = codes "/usr/share/zoneinfo/tzdata.zi"
file_of (Some value) = if length value == 0 then codes "/usr/share/zoneinfo/tzdata.zi" else value

-- the file that is named, where the environment isn't asked, else that of SEFUNJARO_TZDATA, else the system's
abbrev pub IsFile : Option (List ℕ) → EnvironmentSeen → EnvironmentSeen → List ℕ → Type 0
IsFile (Some named) before now file = (file ≡ named) × (now ≡ before)
IsFile None before now file = IfSome before.told (λ told. file ≡ file_of (told (codes "SEFUNJARO_TZDATA")))

-- what a run comes to: an answer, the answers to what came in and how that ended, or why there is none
pub data Outcome : Type 0 where
  answered : List ℕ → Outcome
  served : Made → StreamEnd → Outcome
  failed : Failure → Outcome

-- commands that answer what comes in
abbrev pub is_served : TaskAsked → Bool
is_served (stream plain) = true
is_served (log zone field) = true
is_served _ = false

-- where the shelf tells the file's text, that was read to its end, and this is due over it
abbrev pub IsDueOver : {D : Type 0} → (List ℕ → D → Type 0) → List ℕ → ShelfSeen → ShelfSeen → D → Type 0
IsDueOver due file before now it = IfSome (before.told file) (λ text. (now.left ≡ Some []) × due text it)

-- why nothing is due over a file
abbrev pub IsUnread : List ℕ → ShelfSeen → ShelfSeen → Failure → Type 0
IsUnread file before now (file_fails name) = (name ≡ file) × Rose before.faults now.faults
IsUnread file before now (file_long name) = (name ≡ file) × TooMuch text_limit before.given now.given
IsUnread file before now no_memory = Unit {0}
IsUnread file before now (refuses line) = ⊥
IsUnread file before now (bad_words fault) = ⊥
IsUnread file before now clock_fails = ⊥
IsUnread file before now environment_fails = ⊥

-- what a run comes to over a file, at an instant
abbrev pub IsAnswer : Answers → WordsAsked → ℤ → List ℕ → ShelfSeen → ShelfSeen → Outcome → Type 0
IsAnswer due asked at file before now (answered bytes) = IsDueOver (due asked at file) file before now (Ok bytes)
IsAnswer due asked at file before now (served made end) = ⊥
IsAnswer due asked at file before now (failed (refuses line)) = IsDueOver (due asked at file) file before now (Err line)
IsAnswer due asked at file before now (failed (bad_words fault)) = ⊥
IsAnswer due asked at file before now (failed clock_fails) = ⊥
IsAnswer due asked at file before now (failed environment_fails) = ⊥
IsAnswer due asked at file before now (failed (file_fails name)) = IsUnread file before now (file_fails name)
IsAnswer due asked at file before now (failed (file_long name)) = IsUnread file before now (file_long name)
IsAnswer due asked at file before now (failed no_memory) = Unit {0}

-- the same of a command that answers what comes in
abbrev pub IsServing : Makings → WordsAsked → List ℕ → ShelfSeen → ShelfSeen → Outcome → Type 0
IsServing makes asked file before now (answered bytes) = ⊥
IsServing makes asked file before now (served made end) = IsDueOver (makes asked file) file before now (Ok made)
IsServing makes asked file before now (failed (refuses line)) = IsDueOver (makes asked file) file before now (Err line)
IsServing makes asked file before now (failed (bad_words fault)) = ⊥
IsServing makes asked file before now (failed clock_fails) = ⊥
IsServing makes asked file before now (failed environment_fails) = ⊥
IsServing makes asked file before now (failed (file_fails name)) = IsUnread file before now (file_fails name)
IsServing makes asked file before now (failed (file_long name)) = IsUnread file before now (file_long name)
IsServing makes asked file before now (failed no_memory) = Unit {0}

-- over a file, at an instant
abbrev pub IsOver : Answers → Makings → WordsAsked → ℤ → List ℕ → ShelfSeen → ShelfSeen → Outcome → Type 0
IsOver due makes asked at file before now outcome =
    ((is_served asked.task ≡ false) × IsAnswer due asked at file before now outcome)
    ⊎ ((is_served asked.task ≡ true) × IsServing makes asked file before now outcome)

-- a shelf that may have been read: it tells the same texts, and its faults don't fall
pub record MayBeRead (before now : ShelfSeen) : Type 0 where
  pub texts : (name : List ℕ) → now.told name ≡ before.told name
  pub faults : before.faults ≤ now.faults

-- where words don't ask for the instant, the clock is not asked
abbrev pub IsUnasked : WordsAsked → InSeen → InSeen → Type 0
IsUnasked asked before now = asks_now asked.task ≡ false → now.clock ≡ before.clock

-- over the file that is meant, at the instant that the clock tells where words ask for it
pub record IsOverAt (due : Answers) (makes : Makings) (asked : WordsAsked) (before now : InSeen) (outcome : Outcome) : Type 0 where
  pub at : ℤ
  pub told : asks_now asked.task ≡ true → IfSome before.clock.told (λ nanos. at ≡ pos nanos)
  pub unasked : IsUnasked asked before now
  pub file : List ℕ
  pub named : IsFile asked.source before.environment now.environment file
  pub over : IsOver due makes asked at file before.shelf now.shelf outcome
  pub read : MayBeRead before.shelf now.shelf

-- the clock failed, or tells an instant past the years, which comes before the environment and the file
pub record ClockFailed (asked : WordsAsked) (before now : InSeen) (outcome : Outcome) : Type 0 where
  pub outcome_is : outcome ≡ failed clock_fails
  pub asks : asks_now asked.task ≡ true
  pub why : Rose before.clock.faults now.clock.faults ⊎ IfSome before.clock.told (λ nanos. is_in_years (pos nanos) ≡ false)
  pub environment : now.environment ≡ before.environment
  pub shelf : now.shelf ≡ before.shelf

-- the environment failed, which comes before the file
pub record EnvironmentFailed (asked : WordsAsked) (before now : InSeen) (outcome : Outcome) : Type 0 where
  pub outcome_is : outcome ≡ failed environment_fails
  pub unasked : IsUnasked asked before now
  pub unnamed : asked.source ≡ None
  pub rose : Rose before.environment.faults now.environment.faults
  pub shelf : now.shelf ≡ before.shelf

-- memory ran out before the file was known; a source that is named is not asked of the environment
pub record IsShort (asked : WordsAsked) (before now : InSeen) (outcome : Outcome) : Type 0 where
  pub outcome_is : outcome ≡ failed no_memory
  pub unasked : IsUnasked asked before now
  pub named : IfSome asked.source (λ _. now.environment ≡ before.environment)
  pub shelf : now.shelf ≡ before.shelf

abbrev pub IsFoundOver : Answers → Makings → WordsAsked → InSeen → InSeen → Outcome → Type 0
IsFoundOver due makes asked before now outcome =
    IsOverAt due makes asked before now outcome
    ⊎ (ClockFailed asked before now outcome ⊎ (EnvironmentFailed asked before now outcome ⊎ IsShort asked before now outcome))

-- without a source, and nothing is read; or memory ran out
abbrev pub IsBare : List ℕ → InSeen → InSeen → Outcome → Type 0
IsBare text before now outcome = ((outcome ≡ answered text) ⊎ (outcome ≡ failed no_memory)) × (now ≡ before)

-- what words come to that ask this
abbrev pub IsFound : Answers → Makings → WordsAsked → InSeen → InSeen → Outcome → Type 0
IsFound due makes asked before now outcome = MatchOption (bare asked.task)
    (IsFoundOver due makes asked before now outcome)
    (λ text. IsBare text before now outcome)

-- what words come to that ask nothing
abbrev pub IsRefused : Reading WordsAsked → InSeen → InSeen → Outcome → Type 0
IsRefused read before now outcome = IsErrAnd read (λ fault. outcome ≡ failed (bad_words fault)) × (now ≡ before)

-- what words come to that are read so; or memory ran out, and nothing is read
abbrev pub IsCause : Answers → Makings → Reading WordsAsked → InSeen → InSeen → Outcome → Type 0
IsCause due makes read before now outcome =
    IsOkAnd read (λ asked. IsFound due makes asked before now outcome)
    ⊎ (IsRefused read before now outcome ⊎ ((outcome ≡ failed no_memory) × (now ≡ before)))

-- ---- what is written

-- all of the answer, or a first part where a call failed; and nothing is read
abbrev pub IsWritten : ExchangeSeen → ExchangeSeen → List ℕ → Status → Type 0
IsWritten before now bytes end =
    ((end ≡ status.Done) × Wrote before now bytes)
    ⊎ ((end ≡ status.Write) × Rose before.write_faults now.write_faults × WrotePart before now bytes)

-- all of the line, or a first part where a call failed
abbrev pub IsTold : OutputSeen → OutputSeen → List ℕ → Type 0
IsTold before now line = Grew before now line ⊎ (Rose before.faults now.faults × GrewBySome before now line)

-- standard input and output, and standard error
pub record OutSeen : Type 0 where
  pub exchange : ExchangeSeen
  pub errors : OutputSeen

-- the line of a failure, by its status
abbrev pub IsFailed : OutputSeen → OutputSeen → Failure → Status → Type 0
IsFailed before now failure end = (end ≡ status_of failure) × IsTold before now (errors_of failure)

-- the line of how answering ended, by its status
abbrev pub IsEnded : OutputSeen → OutputSeen → StreamEnd → Status → Type 0
IsEnded before now how end = (end ≡ status_at how) × IsTold before now (errors_at how)

-- an answer goes to the output, and all else to standard error
abbrev pub IsDelivered : OutSeen → OutSeen → Outcome → Status → Type 0
IsDelivered before now (answered bytes) end = IsWritten before.exchange now.exchange bytes end × (now.errors ≡ before.errors)
IsDelivered before now (served made how) end = Ends made before.exchange now.exchange how × IsEnded before.errors now.errors how end
IsDelivered before now (failed failure) end = IsFailed before.errors now.errors failure end × (now.exchange ≡ before.exchange)

-- ---- the whole

pub record Seen : Type 0 where
  pub read : InSeen
  pub written : OutSeen

-- how a run ended whose words are read so
pub record EndsZone (due : Answers) (makes : Makings) (words : Reading WordsAsked) (before now : Seen) (end : Status) : Type 0 where
  pub outcome : Outcome
  pub cause : IsCause due makes words before.read now.read outcome
  pub delivered : IsDelivered before.written now.written outcome end
