-- The words behind a command.
use Rattle.std.specs.Prelude.{ℕ, ◌-◌, List, [], ◌∷◌, length, take, slice_index_or, Option, Some, None, Ok, nat_lt, codes, if◌then◌else◌}
use Rattle.zone_words.specs.{Alarms.{alarm_in, if_told}, Faults.{Reading, wrong, ◌>>=◌}, Options.{GivenOption, has, value_of}}
use Rattle.zone_words.specs.{Tasks.{TaskAsked, Word, alarm, at_instants, chart, converted, file, list_changes, local_time, log, names, plain_form, posix_string, stream, tree}, Values.{instant_in, instants_in, number_in, text_in, year_in}}
use Rattle.zone_words.specs.declared.{command.Command.{Command}, fault.WordCause.TheVariants.{TooFew, TooMany}}
use Rattle.zone_words.specs.declared.command.Command.TheVariants as command

-- what is asked where no word stands behind
abbrev pub alone : List Word → TaskAsked → Reading TaskAsked
alone [] task = Ok task
alone (more ∷ words) task = wrong more TooMany

abbrev pub maybe_in : List Word → Reading (Option Word)
maybe_in [] = Ok None
maybe_in (word ∷ []) = Ok (Some word)
maybe_in (word ∷ more ∷ words) = wrong more TooMany

abbrev pub one_in : Word → List Word → Reading Word
one_in name [] = wrong name TooFew
one_in name (word ∷ []) = Ok word
one_in name (word ∷ more ∷ words) = wrong more TooMany

abbrev pub two_in : Word → List Word → Reading (Word × Word)
two_in name [] = wrong name TooFew
two_in name (first ∷ []) = wrong name TooFew
two_in name (first ∷ second ∷ []) = Ok (first, second)
two_in name (first ∷ second ∷ more ∷ words) = wrong more TooMany

-- NAME TIME..
abbrev pub at_in : Word → List Word → Reading TaskAsked
at_in name [] = wrong name TooFew
at_in name (zone ∷ []) = wrong name TooFew
at_in name (zone ∷ time ∷ times) = instants_in [] (time ∷ times) >>= (λ found. Ok (at_instants zone found))

-- NAME TEXT, which may be two words
abbrev pub local_in : Word → List Word → Reading TaskAsked
local_in name [] = wrong name TooFew
local_in name (zone ∷ text) = text_in name text >>= (λ local. Ok (local_time zone local))

-- FROM TO TEXT, likewise
abbrev pub convert_in : Word → List Word → Reading TaskAsked
convert_in name [] = wrong name TooFew
convert_in name (from ∷ []) = wrong name TooFew
convert_in name (from ∷ to ∷ text) = text_in name text >>= (λ local. Ok (converted from to local))

-- FROM TO, behind a name
abbrev pub changes_in : Word → Word → List Word → Reading TaskAsked
changes_in name zone window = do
  both ← two_in name window
  from ← instant_in both.0
  to ← instant_in both.1
  Ok (list_changes zone from to both.1)

-- NAME FROM TO
abbrev pub list_in : Word → List Word → Reading TaskAsked
list_in name [] = wrong name TooFew
list_in name (zone ∷ window) = changes_in name zone window

abbrev pub field_in : List GivenOption → Reading (Option ℕ)
field_in given = if_told number_in (value_of given (codes "--field"))

-- NAME TIME, with the options of an alarm
abbrev pub zone_alarm_in : Word → List Word → List GivenOption → Reading TaskAsked
zone_alarm_in name words given = do
  both ← two_in name words
  asked ← alarm_in name both.1 given
  Ok (alarm both.0 asked)

-- NAME, with the option of a field
abbrev pub zone_log_in : Word → List Word → List GivenOption → Reading TaskAsked
zone_log_in name words given = do
  zone ← one_in name words
  field ← field_in given
  Ok (log zone field)

-- NAME.. YEAR, of one to eight names
abbrev pub chart_in : Word → List Word → Reading TaskAsked
chart_in name words =
    if nat_lt (length words) 2 then wrong name TooFew
    else (if nat_lt 9 (length words) then wrong (slice_index_or words 9 []) TooMany
    else (year_in (slice_index_or words (length words - 1) []) >>= (λ year. Ok (chart (take (length words - 1) words) year))))

unfoldable pub task_in : Command → Word → List Word → List GivenOption → Reading TaskAsked
task_in command.At name words given = at_in name words
task_in command.Local name words given = local_in name words
task_in command.Convert name words given = convert_in name words
task_in command.List name words given = list_in name words
task_in command.Alarm name words given = zone_alarm_in name words given
task_in command.Names name words given = maybe_in words >>= (λ word. Ok (names word))
task_in command.Stream name words given = alone words (stream (has given (codes "--plain")))
task_in command.Log name words given = zone_log_in name words given
task_in command.Tree name words given = alone words (tree (has given (codes "--to-2099")))
task_in command.File name words given = one_in name words >>= (λ zone. Ok (file zone))
task_in command.String name words given = one_in name words >>= (λ zone. Ok (posix_string zone))
task_in command.Chart name words given = chart_in name words
task_in command.Plain name words given = one_in name words >>= (λ path. Ok (plain_form path))
