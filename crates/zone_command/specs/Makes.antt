-- What is made of an input over the text of a file.
use Rattle.std.specs.Prelude.{◌≡◌, ◌⊎◌, ℕ, List, Bool, true, false, Result, Ok, Err, codes}
use Rattle.zone_command.specs.{Answers.{◌>>=◌}, Named.{Found, named_in}, Refusals.{name_words, told_line}, declared.source.Refusal.{Refusal}, declared.source.Refusal.TheVariants.{Why, NoMemory}, Due.{Making, Makings}, LogTexts.{field_of, log_text}, Streams.{stream_replies}}
use Rattle.zone_words.specs.{declared.answer_form.AnswerForm.{AnswerForm}, Filters.{Made, replied}, Fronts.{fronts_rewritten}, Logs.{log_front}, Replies.{Replies}, Runs.{Ends}, declared.running.StreamEnd.{StreamEnd}, Tasks.{TaskAsked, WordsAsked, stream, log}}
use Rattle.zone_outside.specs.Exchanges.{ExchangeSeen}

-- what a task makes of an input by what names find, or by the replies to requests of `zone_answers`; or the words that tell why nothing
abbrev pub made_of : (List ℕ → Found) → Replies → AnswerForm → TaskAsked → Making
made_of found plain form (stream false) = Ok (replied (stream_replies found form))
made_of found plain form (stream true) = Ok (replied plain)
made_of found plain form (log name field) = named_in found name >>= (λ view. Ok (fronts_rewritten (log_front (field_of field) (log_text form view))))
made_of found plain form _ = Err (codes "this command answers no input")

-- the words as a line
abbrev pub lined : Making → Making
lined (Ok made) = Ok made
lined (Err words) = Err (told_line words)

-- the run over an exchange ended by what is made of its input, or nothing was read and written
abbrev pub IsServedBy : Making → ExchangeSeen → ExchangeSeen → Result StreamEnd Refusal → Type 0
IsServedBy making before now (Ok end) = (made : Made) × (making ≡ Ok made) × Ends made before now end
IsServedBy making before now (Err (Why words)) = (making ≡ Err words.items) × (now ≡ before)
IsServedBy making before now (Err NoMemory) = now ≡ before

-- whether requests of `zone_answers` come in
abbrev pub is_plain : TaskAsked → Bool
is_plain (stream plain) = plain
is_plain _ = false

-- the one for such requests, or the one for all else
abbrev pub chosen : {A : Type 1} → Bool → A → A → A
chosen true plain other = plain
chosen false plain other = other

-- the source that the text is read as, and what is made of an input over it
pub record IsMadeBy {S : Type 0} (reads : List ℕ → S → Type 0) (found : S → List ℕ → Found) (plain : S → Replies) (asked : WordsAsked) (text : List ℕ)
    (making : Making) : Type 0 where
  pub source : S
  pub read : reads text source
  pub is : making ≡ lined (made_of (found source) (plain source) asked.form asked.task)

-- or why the text is no source, which is told of the file
pub record IsMadeNot (unread : List ℕ → List ℕ → Type 0) (file text : List ℕ) (making : Making) : Type 0 where
  pub why : List ℕ
  pub unread_for : unread text why
  pub is : making ≡ Err (told_line (name_words file why))

abbrev pub IsMadeAs : {S : Type 0} → (List ℕ → S → Type 0) → (List ℕ → List ℕ → Type 0) → (S → List ℕ → Found) → (S → Replies) → Makings
IsMadeAs reads unread found plain asked file text making = IsMadeBy reads found plain asked text making ⊎ IsMadeNot unread file text making

-- a text is read in its own way for the requests of `zone_answers`
abbrev pub IsMadeOver : {S : Type 0} → (List ℕ → S → Type 0) → (List ℕ → S → Type 0) → (List ℕ → List ℕ → Type 0) → (List ℕ → List ℕ → Type 0)
    → (S → List ℕ → Found) → (S → Replies) → Makings
IsMadeOver plainly reads unplainly unread found plain asked =
    IsMadeAs (chosen (is_plain asked.task) plainly reads) (chosen (is_plain asked.task) unplainly unread) found plain asked
