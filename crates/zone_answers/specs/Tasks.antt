-- What the code's task shows.
use Rattle.zone_answers.specs.Words.{Task, answer_over, generate}
use Rattle.zone_answers.specs.declared.running.Task as code
use Rattle.zone_answers.specs.declared.running.Task.TheVariants as task

abbrev pub shown_task : code.Task → Task
shown_task (task.AnswerOver name) = answer_over name.now
shown_task (task.Generate count) = generate count
