-- What the code's answers show.
use Rattle.std.specs.Prelude.{map, option_map}
use Rattle.zone_words.specs.{TimesShown.{asked}, Shown.{word_shown}, Tasks.{AlarmAsked, TaskAsked, WordsAsked, help, version, at_instants, local_time, converted, list_changes, alarm, names, stream, log, tree, file, posix_string, chart, plain_form}, declared.task.Alarm.{Alarm}, declared.task.{Asked.{Asked}, Task.{Task}}}
use Rattle.zone_words.specs.declared.task.Task.TheVariants as task

abbrev pub alarm_shown : Alarm → AlarmAsked
alarm_shown a = record {
  time = a.time;
  first = a.first;
  count = a.count;
  until = a.until;
  every = a.every;
  days = a.days;
  gap = a.gap;
  fold = a.fold;
}

abbrev pub task_shown : Task → TaskAsked
task_shown (task.Help command) = help command
task_shown task.Version = version
task_shown (task.At zone times) = at_instants zone.now (map asked times.items)
task_shown (task.Local zone local) = local_time zone.now local
task_shown (task.Convert from to local) = converted from.now to.now local
task_shown (task.List zone from to word) = list_changes zone.now (asked from) (asked to) word.now
task_shown (task.Alarm zone a) = alarm zone.now (alarm_shown a)
task_shown (task.Names word) = names (option_map word_shown word)
task_shown (task.Stream plain) = stream plain
task_shown (task.Log zone field) = log zone.now field
task_shown (task.Tree to_2099) = tree to_2099
task_shown (task.File zone) = file zone.now
task_shown (task.String zone) = posix_string zone.now
task_shown (task.Chart zones year) = chart (map word_shown zones.items) year
task_shown (task.Plain path) = plain_form path.now

abbrev pub words_shown : Asked → WordsAsked
words_shown a = record { source = option_map word_shown a.source; form = a.form; task = task_shown a.task }
