-- What the code's results tell of requests.
use Rattle.std.specs.Prelude.{◌≡◌, ℕ, List, Result, Ok, Err}
use Rattle.zone_command.specs.{Answers.{Answer}, Refusals.{IsTold}, declared.source.Refusal.{Refusal}, declared.source.Refusal.TheVariants.{Why, NoMemory}, Requests.{Request}}
use Rattle.zone_words.specs.{TaskShown.{task_shown}, declared.task.Asked.{Asked}}

-- the result is what is asked, or the words of the fault; or memory ran out
abbrev pub IsRequest : Request → Result Asked Refusal → Type 0
IsRequest request (Ok asked) = request ≡ Ok (task_shown asked.task)
IsRequest request (Err (Why words)) = request ≡ Err words.items
IsRequest request (Err NoMemory) = Unit {0}

-- the text is the answer; or the words are why there is none, or memory ran out
abbrev pub IsPut : {A : Type 0} → Answer → List ℕ → Result A Refusal → Type 0
IsPut answer text (Ok done) = answer ≡ Ok text
IsPut answer text (Err refusal) = IsTold (λ words. answer ≡ Err words) refusal
