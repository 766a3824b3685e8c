-- How the program ends that was started.
use Rattle.std.specs.Prelude.{IfSome}
use Rattle.zone_source.specs.{Starts.{Run, Starts}, declared.starting.Started.{Started}}
use Rattle.zone_answers.specs.{Ends.{Ends}, Generated.{Generated}, Words.{count_of, task_of}}

-- how its run ends: over a file, or over the texts made from a number
abbrev pub answers_run : Run
answers_run words before now end =
    Ends (task_of words) before now end
    × IfSome (count_of (task_of words)) (λ count. Generated count before now end)

abbrev pub StartsAnswers : Started → Type 0
StartsAnswers started = Starts answers_run started
