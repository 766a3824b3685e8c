-- What is due over the text of a source.
use Rattle.std.specs.{Prelude.{◌≡◌, ℕ, List, Result, Ok, Err, ℤ, Vec}, declared.alloc.Global.{Global}}
use Rattle.zone_outside.specs.Exchanges.{ExchangeSeen}
use Rattle.zone_words.specs.{Filters.{Made}, Runs.{Ends}, declared.running.StreamEnd.{StreamEnd}, Tasks.{WordsAsked}}
use Rattle.zone_command.specs.declared.answerer.AnswerFault.{AnswerFault, TheVariants.{Line, NoMemory}}

-- the answer, or the line that tells why there is none
abbrev pub Due : Type 0
Due = Result (List ℕ) (List ℕ)

-- what is due: of what words ask, the instant at which they do, the name of the file, and its text
abbrev pub Answers : Type 1
Answers = WordsAsked → ℤ → List ℕ → List ℕ → Due → Type 0

-- the result is what is due, or memory ran out
abbrev pub IsDue : (Due → Type 0) → Result (Vec ℕ Global) AnswerFault → Type 0
IsDue due (Ok bytes) = due (Ok bytes.items)
IsDue due (Err (Line line)) = due (Err line.items)
IsDue due (Err NoMemory) = Unit {0}

-- what is made of an input as it comes, or the line that tells why nothing is
abbrev pub Making : Type 0
Making = Result Made (List ℕ)

-- of what words ask, the name of the file, and its text
abbrev pub Makings : Type 1
Makings = WordsAsked → List ℕ → List ℕ → Making → Type 0

-- the run over an exchange ended by what is made of its input, or nothing was read and written
abbrev pub IsServed : (Making → Type 0) → ExchangeSeen → ExchangeSeen → Result StreamEnd AnswerFault → Type 0
IsServed making before now (Ok end) = (made : Made) × making (Ok made) × Ends made before now end
IsServed making before now (Err (Line line)) = making (Err line.items) × (now ≡ before)
IsServed making before now (Err NoMemory) = now ≡ before
