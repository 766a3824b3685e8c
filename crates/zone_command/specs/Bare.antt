-- What is told without a source.
use Rattle.std.specs.{Prelude.{ℕ, List, Option, Some, None}, Borrow.{Bor}}
use Rattle.zone_words.specs.{Tasks.{TaskAsked, help, version}, declared.command.Command.{Command}}
use Rattle.zone_words.specs.declared.command.Command.TheVariants as command
use Rattle.zone_command.specs.declared.help.TheConstants.{VERSION, HELP, HELP_AT, HELP_LOCAL, HELP_CONVERT, HELP_LIST, HELP_ALARM, HELP_NAMES, HELP_STREAM, HELP_LOG, HELP_TREE, HELP_FILE, HELP_STRING, HELP_CHART, HELP_PLAIN}

abbrev pub text_shown : Bor (List ℕ) → List ℕ
text_shown text = text.now

abbrev pub help_of : Command → List ℕ
help_of command.At = HELP_AT.now
help_of command.Local = HELP_LOCAL.now
help_of command.Convert = HELP_CONVERT.now
help_of command.List = HELP_LIST.now
help_of command.Alarm = HELP_ALARM.now
help_of command.Names = HELP_NAMES.now
help_of command.Stream = HELP_STREAM.now
help_of command.Log = HELP_LOG.now
help_of command.Tree = HELP_TREE.now
help_of command.File = HELP_FILE.now
help_of command.String = HELP_STRING.now
help_of command.Chart = HELP_CHART.now
help_of command.Plain = HELP_PLAIN.now

abbrev pub help_text : Option Command → List ℕ
help_text None = HELP.now
help_text (Some c) = help_of c

-- what a task asks for without a source
abbrev pub bare : TaskAsked → Option (List ℕ)
bare (help c) = Some (help_text c)
bare version = Some VERSION.now
bare _ = None
