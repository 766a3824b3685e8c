-- What words ask.
use Rattle.std.specs.Prelude.{ℕ, Bool, List, Option, ℤ}
use Rattle.zone_words.specs.{declared.answer_form.AnswerForm.{AnswerForm}, declared.{command.Command.{Command}, task.FoldRule.{FoldRule}, task.GapRule.{GapRule}}}

abbrev pub Word : Type 0
Word = List ℕ

-- an instant, or now, which is none of its own
abbrev pub Time : Type 0
Time = Option ℤ

-- a time of day in nanoseconds; the first day; how many days, or the last; so many days from each to the next; the weekdays from
-- Monday on
pub record AlarmAsked : Type 0 where
  pub time : ℕ
  pub first : ℤ
  pub count : Option ℕ
  pub until : Option ℤ
  pub every : ℕ
  pub days : List Bool
  pub gap : GapRule
  pub fold : FoldRule

pub data TaskAsked : Type 0 where
  help : Option Command → TaskAsked
  version : TaskAsked
  at_instants : Word → List Time → TaskAsked
  local_time : Word → ℤ → TaskAsked
  converted : Word → Word → ℤ → TaskAsked
  list_changes : Word → Time → Time → Word → TaskAsked
  alarm : Word → AlarmAsked → TaskAsked
  names : Option Word → TaskAsked
  stream : Bool → TaskAsked
  log : Word → Option ℕ → TaskAsked
  tree : Bool → TaskAsked
  file : Word → TaskAsked
  posix_string : Word → TaskAsked
  chart : List Word → ℕ → TaskAsked
  plain_form : Word → TaskAsked

-- the file of the source, where it is named; the form of the answers; what is to be done
pub record WordsAsked : Type 0 where
  pub source : Option Word
  pub form : AnswerForm
  pub task : TaskAsked
