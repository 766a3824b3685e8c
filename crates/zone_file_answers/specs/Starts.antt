-- How the program ends that was started.
use Rattle.zone_file_answers.specs.Ends.{Ends}
use Rattle.zone_source.specs.{FileWords.{file_of}, Starts.{Run, StartsBare}, declared.starting.Started.{Started}}

-- how its run ends, whose words name one file
abbrev pub answers_run : Run
answers_run words before now end = Ends (file_of words) before now end

abbrev pub StartsAnswers : Started → Type 0
StartsAnswers started = StartsBare answers_run started
