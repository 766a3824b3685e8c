-- What words ask, or their first fault.
use Rattle.std.specs.{Prelude.{List, [], ◌∷◌, Option, Some, None, Ok, codes, if◌then◌else◌}, Option.{option_map_or}}
use Rattle.zone_words.specs.{declared.answer_form.AnswerForm.{AnswerForm, TheVariants.{People, Rfc3339, Epoch, Json}}, Arguments.{task_in}, Commands.{command_named, takes}, Faults.{Reading, wrong, ◌>>=◌}, Options.{GivenOption, has, value_of}, Sorted.{sorted}, Tasks.{TaskAsked, Word, WordsAsked, help, plain_form, version}, declared.command.Command.{Command}, declared.fault.WordCause.TheVariants.{CommandMissing, OtherOption, UnknownCommand}}

-- for people where no form is told
abbrev pub form_in : List GivenOption → AnswerForm
form_in given =
    if has given (codes "--rfc3339") then Rfc3339
    else (if has given (codes "--epoch") then Epoch else (if has given (codes "--json") then Json else People))

abbrev pub command_in : Word → Reading Command
command_in name = option_map_or (λ command. Ok command) (command_named name) (wrong name UnknownCommand)

-- the first option that the command doesn't take
abbrev pub other_option : Command → List GivenOption → Option Word
other_option command [] = None
other_option command (option ∷ given) = if takes command option.0 then other_option command given else Some option.0

-- what the command can do, or all of them
abbrev pub help_in : List Word → Reading TaskAsked
help_in [] = Ok (help None)
help_in (name ∷ words) = command_in name >>= (λ command. Ok (help (Some command)))

abbrev pub of_command : List Word → List GivenOption → Reading TaskAsked
of_command [] given = wrong [] CommandMissing
of_command (name ∷ words) given = command_in name
    >>= (λ command. option_map_or (λ option. wrong option OtherOption) (other_option command given) (task_in command name words given))

abbrev pub whole_task : List Word → List GivenOption → Reading TaskAsked
whole_task words given =
    if has given (codes "--help") then help_in words else (if has given (codes "--version") then Ok version else of_command words given)

-- the file of the source, where words name it: that of a plain form, else the one behind the option
abbrev pub source_in : TaskAsked → List GivenOption → Option Word
source_in (plain_form path) given = Some path
source_in task given = value_of given (codes "--source")

unfoldable pub words_in : List Word → Reading WordsAsked
words_in words = do
  s ← sorted words
  task ← whole_task s.words s.given
  Ok (record { source = source_in task s.given; form = form_in s.given; task = task })
