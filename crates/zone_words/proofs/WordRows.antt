-- What lines of words ask, with a bar between the words: each command and each option, and each fault.
use Rattle.std.{proofs.Common.{◌≡◌, refl, map, ◌==◌, ℕ, Bool, true, false, List, [], ◌∷◌, ◌++◌, get_or, Option, Some, None, Ok, Err, pos}, specs.Prelude.{codes}, specs.List.{slice_split}}
use Rattle.basics.specs.{Days.{is_leap, days_in_year, days_in_month, days_after_zero, days_before_zero, year_start, days_through, days_into_year, day}, Numbers.{value_in}}
use Rattle.civil_base.specs.{Clock.{time_at}, Layout.{day_part, time_part}}
use Rattle.zone_words.specs.{Numbers.{moment, seconds_east, counted}, Pieces.{digit_at, two_at, four_at, date_at, minute_at, second_at, offset_at}, Readings.{digits_at, fraction_at, front_at, seconds_at, moment_in, local_in, in_years, zoned_at, zoned_in, size_at, count_at, count_in, counted_in, written_in, instant_in, asked_in}, declared.answer_form.AnswerForm.{AnswerForm}, declared.answer_form.AnswerForm.TheVariants.{People, Rfc3339, Epoch, Json}, Arguments.{task_in}, FaultLines.{quoted}, Faults.{Reading}, ToldWords.{told_word}, Sorted.{put_any, put_option, put_word}, Tasks.{AlarmAsked, TaskAsked, WordsAsked, help, version, at_instants, local_time, converted, list_changes, alarm, names, stream, log, tree, file, posix_string, chart, plain_form}, Values.{date_in, time_in, number_of, year_of}, Words.{words_in}, declared.{command.Command.TheVariants.{At}, fault.WordCause.{WordCause}, task.FoldRule.TheVariants.{First, Second, Both}, task.GapRule.TheVariants.{Skip, Before, After}}}
use Rattle.zone_words.specs.declared.text_fault.TextFault.TheVariants as text
use Rattle.zone_words.specs.declared.fault.WordCause.TheVariants as cause

abbrev cut : ℕ → List ℕ → List (List ℕ)
cut mark text = slice_split (λ c. c == mark) text

abbrev asks : Option (List ℕ) → AnswerForm → TaskAsked → Reading WordsAsked
asks source form task = Ok (record { source = source; form = form; task = task })

abbrev people : TaskAsked → Reading WordsAsked
people task = asks None People task

abbrev wrong : List ℕ → WordCause → Reading WordsAsked
wrong word why = Err (record { word = word; more = None; cause = why })

abbrev rings : AlarmAsked → Reading WordsAsked
rings asked = people (alarm (codes "UTC") asked)

-- each day at 07:30 from 2024-10-27 on, by what holds where no option says otherwise
abbrev half_past_seven : AlarmAsked
half_past_seven = record {
  time = 27000000000000;
  first = pos 20023;
  count = None;
  until = None;
  every = 1;
  days = true ∷ true ∷ true ∷ true ∷ true ∷ true ∷ true ∷ [];
  gap = Skip;
  fold = First;
}

abbrev asked : List (List ℕ × Reading WordsAsked)
asked =
    (codes "at|Europe/Paris|now|@0", people (at_instants (codes "Europe/Paris") (None ∷ Some (pos 0) ∷ []))) ∷
    (codes "--json|at|UTC|2024-10-27T02:30:00Z", asks None Json (at_instants (codes "UTC") (Some (pos 1729996200000000000) ∷ []))) ∷
    (codes "at|UTC|--source|a b.zi|@1|--epoch", asks (Some (codes "a b.zi")) Epoch (at_instants (codes "UTC") (Some (pos 1000000000) ∷ []))) ∷
    (codes "local|Europe/Berlin|2024-10-27 02:30", people (local_time (codes "Europe/Berlin") (pos 1729996200000000000))) ∷
    (codes "local|Europe/Berlin|2024-10-27|02:30", people (local_time (codes "Europe/Berlin") (pos 1729996200000000000))) ∷
    (codes "convert|-03:30|UTC|2024-10-27T02:30:00", people (converted (codes "-03:30") (codes "UTC") (pos 1729996200000000000))) ∷
    (codes "convert|UTC|a|2024-10-27|02:30|--rfc3339", asks None Rfc3339 (converted (codes "UTC") (codes "a") (pos 1729996200000000000))) ∷
    (codes "list|UTC|@1|now", people (list_changes (codes "UTC") (Some (pos 1000000000)) None (codes "now"))) ∷
    (codes "list|UTC|now|@1|--json", asks None Json (list_changes (codes "UTC") None (Some (pos 1000000000)) (codes "@1"))) ∷
    (codes "alarm|UTC|07:30|--from|2024-10-27|--count|7", rings (record half_past_seven { count = Some 7 })) ∷ (
      codes "alarm|UTC|07:30|--until|2024-10-28|--every|2|--on|mon,sun,mon|--gap|after|--fold|both|--from|2024-10-27",
      rings (record half_past_seven {
        until = Some (pos 20024);
        every = 2;
        days = true ∷ false ∷ false ∷ false ∷ false ∷ false ∷ true ∷ [];
        gap = After;
        fold = Both;
      }),
    ) ∷ (
      codes "alarm|UTC|00:00:01|--count|1|--on|tue,wed,thu,fri,sat|--gap|before|--fold|second|--from|1970-01-01",
      rings (record {
        time = 1000000000;
        first = pos 0;
        count = Some 1;
        until = None;
        every = 1;
        days = false ∷ true ∷ true ∷ true ∷ true ∷ true ∷ false ∷ [];
        gap = Before;
        fold = Second;
      }),
    ) ∷
    (codes "alarm|UTC|07:30|--from|2024-10-27|--until|2024-10-27", rings (record half_past_seven { until = Some (pos 20023) })) ∷
    (codes "names", people (names None)) ∷ (codes "names|Berlin|--json", asks None Json (names (Some (codes "Berlin")))) ∷
    (codes "stream|--json", asks None Json (stream false)) ∷ (codes "stream|--epoch", asks None Epoch (stream false)) ∷ (codes "stream", people (stream false)) ∷ (codes "stream|--plain", people (stream true)) ∷
    (codes "log|UTC|--rfc3339", asks None Rfc3339 (log (codes "UTC") None)) ∷ (codes "log|UTC", people (log (codes "UTC") None)) ∷ (codes "--field|3|log|UTC", people (log (codes "UTC") (Some 3))) ∷
    (codes "tree", people (tree false)) ∷ (codes "tree|--to-2099", people (tree true)) ∷ (codes "--source|a|tree|--to-2099", asks (Some (codes "a")) People (tree true)) ∷
    (codes "plain|a b.zi", asks (Some (codes "a b.zi")) People (plain_form (codes "a b.zi"))) ∷ (codes "plain|--|--source", asks (Some (codes "--source")) People (plain_form (codes "--source"))) ∷ (codes "file|UTC", people (file (codes "UTC"))) ∷
    (codes "string|UTC", people (posix_string (codes "UTC"))) ∷
    (codes "chart|UTC|2024", people (chart (codes "UTC" ∷ []) 2024)) ∷
    (codes "chart|a|b|c|d|e|f|g|h|9999", people (chart (map (λ c. c ∷ []) (codes "abcdefgh")) 9999)) ∷
    (codes "--help", people (help None)) ∷ (codes "at|--help", people (help (Some At))) ∷
    (codes "--help|at|x|--plain", people (help (Some At))) ∷ (codes "what|--version", people version) ∷
    (codes "--|names|--help", people (names (Some (codes "--help")))) ∷ []

-- lines that one cause refuses, each behind the word at fault and a question mark
abbrev because : WordCause → List (List ℕ) → List (List ℕ × Reading WordsAsked)
because why rows = map (λ row. let parts = cut 63 row in (get_or parts 1 [], wrong (get_or parts 0 []) why)) rows

abbrev faults : List (List ℕ × Reading WordsAsked)
faults =
    because cause.UnknownCommand (codes "?" ∷ codes "what?what" ∷ codes "At?At|UTC|now" ∷ [])
    ++ because cause.CommandMissing (codes "?--json" ∷ [])
    ++ because cause.UnknownOption (codes "--what?names|--what" ∷ codes "-x?-x|--source" ∷ [])
    ++ because cause.ValueMissing (codes "--source?names|--source" ∷ [])
    ++ because cause.Twice (codes "--json?names|--json|--json|--x" ∷ codes "--epoch?names|--json|--epoch"
    ∷ codes "--until?what|--count|1|--until|x" ∷ codes "--json?stream|--plain|--json" ∷ codes "--plain?stream|--epoch|--plain"
    ∷ codes "--to-2099?tree|--to-2099|--to-2099" ∷ [])
    ++ because cause.OtherOption (codes "--json?file|UTC|--json" ∷ codes "--epoch?string|UTC|--epoch"
    ∷ codes "--rfc3339?--rfc3339|tree" ∷ codes "--json?chart|UTC|2024|--json" ∷ codes "--epoch?names|--epoch"
    ∷ codes "--rfc3339?names|--rfc3339" ∷ codes "--json?log|UTC|--json" ∷ codes "--json?tree|--json"
    ∷ codes "--json?string|UTC|--json" ∷ codes "--rfc3339?file|UTC|--rfc3339" ∷ codes "--epoch?chart|UTC|2024|--epoch"
    ∷ codes "--plain?at|UTC|now|--plain" ∷ codes "--from?names|--from|2024-10-27" ∷ codes "--field?alarm|UTC|07:30|--field|1"
    ∷ codes "--source?plain|a|--source|b" ∷ codes "--json?plain|a|--json" ∷ codes "--epoch?plain|a|--epoch"
    ∷ codes "--to-2099?file|UTC|--to-2099" ∷ codes "--to-2099?plain|a|--to-2099" ∷ [])
    ++ because cause.TooFew (codes "at?at|UTC" ∷ codes "at?at" ∷ codes "local?local|UTC" ∷ codes "convert?convert|UTC|UTC"
    ∷ codes "list?list|UTC|now" ∷ codes "file?file" ∷ codes "plain?plain" ∷ codes "chart?chart|2024" ∷ [])
    ++ because cause.TooMany (codes "then?list|UTC|now|now|then" ∷ codes "x?tree|x" ∷ codes "b?plain|a|b" ∷ codes "b?names|a|b"
    ∷ codes "CEST?local|UTC|2024-10-27|02:30|CEST" ∷ codes "2024?chart|a|b|c|d|e|f|g|h|i|2024" ∷ [])
    ++ because (cause.Text text.CountMissing) (codes "@x?at|UTC|now|@x" ∷ [])
    ++ because (cause.Text text.MarkMissing) (codes "1729992600?at|UTC|1729992600" ∷ codes "-5?list|UTC|@1|-5" ∷ [])
    ++ because (cause.Text text.ClockMissing) (codes "2024-10-27?at|UTC|2024-10-27|02:30" ∷ [])
    ++ because (cause.Text text.OffsetThere) (codes "2024-10-27T02:30Z?local|UTC|2024-10-27T02:30Z" ∷ [])
    ++ because (cause.Text text.TimeMissing) (codes "2024-10-27?local|UTC|2024-10-27" ∷ codes "730?alarm|UTC|730|--count|0" ∷ [])
    ++ because cause.Number (codes "0?log|UTC|--field|0" ∷ codes "65536?log|UTC|--field|65536" ∷ codes "+1?log|UTC|--field|+1"
    ∷ codes "x?alarm|UTC|07:30|--from|2024-10-27|--count|1|--every|x" ∷ [])
    ++ because (cause.Text text.HourShort) (codes "7:30?alarm|UTC|7:30|--count|0" ∷ [])
    ++ because cause.BeforeFirst (codes "2024-10-26?alarm|UTC|07:30|--from|2024-10-27|--until|2024-10-26|--every|x" ∷ [])
    ++ because cause.FirstMissing (codes "alarm?alarm|UTC|07:30|--count|0" ∷ [])
    ++ because (cause.Text text.NoSuchDate) (codes "2024-02-30?alarm|UTC|07:30|--from|2024-02-30" ∷ [])
    ++ because (cause.Text text.DateMissing) (codes "2024-10-27T00:00?alarm|UTC|07:30|--from|2024-10-27T00:00"
    ∷ codes "soon?alarm|UTC|07:30|--from|2024-10-27|--until|soon" ∷ [])
    ++ because cause.EndMissing (codes "alarm?alarm|UTC|07:30|--from|2024-10-27" ∷ [])
    ++ because cause.Weekdays (codes "mon,?alarm|UTC|07:30|--from|2024-10-27|--count|1|--on|mon," ∷ [])
    ++ because cause.GapRule (codes "first?alarm|UTC|07:30|--from|2024-10-27|--count|1|--gap|first" ∷ [])
    ++ because cause.FoldRule (codes "skip?alarm|UTC|07:30|--from|2024-10-27|--count|1|--fold|skip" ∷ [])
    ++ because cause.Year (codes "10000?chart|UTC|10000" ∷ [])
    ++ ((
      codes "local|UTC|2024-10-27|02:70",
      Err (record { word = codes "2024-10-27"; more = Some (codes "02:70"); cause = cause.Text text.NoSuchTime }),
    ) ∷ [])

worked : map (λ row. words_in (cut 124 row.0)) (asked ++ faults) ≡ map (λ row. row.1) (asked ++ faults)
unfolding is_leap days_in_year days_in_month days_after_zero days_before_zero year_start days_through days_into_year day time_at
    moment seconds_east counted digit_at two_at four_at date_at minute_at second_at offset_at digits_at fraction_at front_at seconds_at
    moment_in local_in in_years zoned_at zoned_in size_at count_at count_in counted_in written_in instant_in asked_in
    day_part time_part value_in number_of year_of date_in time_in put_any put_option put_word task_in words_in
worked = refl

-- a word as it is told; bytes of other characters stay
told : map told_word (codes "Europe/Paris" ∷ (34 ∷ 92 ∷ 39 ∷ []) ∷ (97 ∷ 10 ∷ 98 ∷ 9 ∷ 13 ∷ 0 ∷ 31 ∷ 32 ∷ 126 ∷ 127 ∷ 128 ∷ 195 ∷ 164 ∷ []) ∷ [])
    ≡ codes "Europe/Paris" ∷ (92 ∷ 34 ∷ 92 ∷ 92 ∷ 39 ∷ []) ∷ (codes "a\\nb\\t\\x0d\\x00\\x1f ~\\x7f" ++ 128 ∷ 195 ∷ 164 ∷ []) ∷ []
told = refl

-- two words of one text
quoted_pair : quoted (record { word = codes "a"; more = Some (10 ∷ []); cause = cause.Weekdays }) ≡ (34 ∷ codes "a \\n") ++ 34 ∷ codes ": "
quoted_pair = refl
