-- What is told of failures, with the status; which file is read; when the clock is asked; what answers what comes in.
use Rattle.std.{proofs.Common.{◌≡◌, refl, map, ℕ, Bool, true, false, List, [], ◌∷◌, ◌++◌, Some, None, pos}, specs.Prelude.{codes}}
use Rattle.zone_command.specs.{Ends.{file_of, is_served}, Failures.{Failure, bad_words, clock_fails, environment_fails, file_fails, file_long, no_memory, refuses, errors_at, errors_of, status_at, status_of}, Times.{asks_now}}
use Rattle.zone_words.specs.{declared.text_fault.TextFault.TheVariants.{TimeMissing}, declared.running.StreamEnd.{StreamEnd, TheVariants.{Done, Fault, Read, Write, NoMemory, TooLong}}, FaultLines.{fault_line}, Tasks.{TaskAsked, help, at_instants, local_time, list_changes, log, plain_form, stream, tree}, declared.command.Command.TheVariants.{At}, declared.fault.WordCause.TheVariants.{BeforeFirst, Text, TooFew, UnknownOption}}
use Rattle.zone_source.specs.Statuses.{code_of}

abbrev quoted : List ℕ → List ℕ
quoted word = 34 ∷ word ++ 34 ∷ []

abbrev failures : List (Failure × (List ℕ × ℕ))
failures =
    (refuses (codes "why"), (codes "why", 2)) ∷ (
      bad_words (record { word = codes "--x"; more = None; cause = UnknownOption }),
      (codes "zone: " ++ quoted (codes "--x") ++ codes ": no option has this name; zone --help tells them, and a value is a word of its own, as in --from 2024-10-27" ++ 10 ∷ [], 1),
    ) ∷ (
      bad_words (record { word = codes "2024-10-27"; more = None; cause = Text TimeMissing }),
      (codes "zone: " ++ quoted (codes "2024-10-27") ++ codes ": a time of day is missing, as in 2024-10-27 02:30" ++ 10 ∷ [], 2),
    ) ∷ (
      bad_words (record { word = codes "a"; more = Some (codes "b"); cause = Text TimeMissing }),
      (codes "zone: " ++ quoted (codes "a b") ++ codes ": a time of day is missing, as in 2024-10-27 02:30" ++ 10 ∷ [], 2),
    ) ∷ (
      bad_words (record { word = []; more = None; cause = TooFew }),
      (codes "zone: words are missing behind this command" ++ 10 ∷ [], 1),
    ) ∷ (
      bad_words (record { word = codes "2024-10-26"; more = None; cause = BeforeFirst }),
      (codes "zone: " ++ quoted (codes "2024-10-26") ++ codes ": the last day comes before the first" ++ 10 ∷ [], 2),
    ) ∷
    (clock_fails, (codes "zone: the clock can't be read" ++ 10 ∷ [], 3)) ∷
    (environment_fails, (codes "zone: the value of SEFUNJARO_TZDATA can't be read" ++ 10 ∷ [], 3)) ∷
    (file_fails (10 ∷ []), (codes "zone: " ++ quoted (codes "\\n") ++ codes ": this file can't be read" ++ 10 ∷ [], 3)) ∷
    (file_fails (codes "x"), (codes "zone: " ++ quoted (codes "x") ++ codes ": this file can't be read" ++ 10 ∷ [], 3)) ∷ (
      file_long (codes "x"),
      (codes "zone: " ++ quoted (codes "x") ++ codes ": this file has more than 16,777,216 bytes" ++ 10 ∷ [], 6),
    ) ∷
    (no_memory, (codes "zone: out of memory" ++ 10 ∷ [], 5)) ∷ []

worked_failures : map (λ row. (errors_of row.0, code_of (status_of row.0))) failures ≡ map (λ row. row.1) failures
unfolding fault_line errors_of
worked_failures = refl

worked_files : map file_of (Some (codes "b") ∷ Some [] ∷ None ∷ []) ≡ codes "b" ∷ codes "/usr/share/zoneinfo/tzdata.zi" ∷ codes "/usr/share/zoneinfo/tzdata.zi" ∷ []
worked_files = refl

abbrev ends : List (StreamEnd × (List ℕ × ℕ))
ends =
    (Done, ([], 0)) ∷ (Fault, ([], 2)) ∷ (Read, (codes "zone: standard input can't be read" ++ 10 ∷ [], 3)) ∷ (Write, ([], 4)) ∷
    (NoMemory, (codes "zone: out of memory" ++ 10 ∷ [], 5)) ∷ (TooLong, (codes "zone: standard input is too long" ++ 10 ∷ [], 6)) ∷ []

worked_ends : map (λ row. (errors_at row.0, code_of (status_at row.0))) ends ≡ map (λ row. row.1) ends
unfolding errors_at
worked_ends = refl

abbrev tasks : List (TaskAsked × Bool)
tasks =
    (at_instants [] (Some (pos 1) ∷ None ∷ []), true) ∷ (at_instants [] (Some (pos 1) ∷ []), false) ∷
    (list_changes [] (Some (pos 1)) None [], true) ∷ (list_changes [] None (Some (pos 1)) [], true) ∷ (local_time [] (pos 1), false) ∷
    (list_changes [] (Some (pos 1)) (Some (pos 2)) [], false) ∷
    (help (Some At), false) ∷ (stream true, false) ∷ (plain_form [], false) ∷ []

worked_tasks : map (λ row. asks_now row.0) tasks ≡ map (λ row. row.1) tasks
worked_tasks = refl

-- what answers what comes in
worked_served : map is_served (stream false ∷ log [] None ∷ tree true ∷ plain_form [] ∷ at_instants [] [] ∷ []) ≡ true ∷ true ∷ false ∷ false ∷ false ∷ []
worked_served = refl
