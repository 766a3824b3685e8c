-- What is answered to requests, by what names find.
use Rattle.std.specs.Prelude.{ℕ, Bool, true, false, List, [], ◌∷◌, ◌++◌, Option, Some, None, Ok, Err, ℤ, codes}
use Rattle.zone_command.specs.{Answers.{Answer, told, ◌>>=◌}, Named.{Found}, Replies.{at_fault, on_zone}, Requests.{Request, request_in}}
use Rattle.zone_words.specs.{declared.answer_form.AnswerForm.{AnswerForm, TheVariants.{People, Rfc3339, Epoch, Json}}, Replies.{Replies}, Tasks.{TaskAsked, at_instants, local_time, converted}}
use Rattle.zone_texts.specs.{Faults.{Due, behind, followed}, Instants.{at_due}, Readings.{convert_due}, Views.{ZoneView}}

-- what stands before the readings of a local time, between them and behind them: in JSON they are an array
abbrev pub opening : AnswerForm → List ℕ
opening Json = codes "["
opening People = []
opening Rfc3339 = []
opening Epoch = []

abbrev pub between : AnswerForm → List ℕ
between Json = codes ","
between People = codes " | "
between Rfc3339 = codes " | "
between Epoch = codes " | "

abbrev pub closing : AnswerForm → List ℕ
closing Json = codes "]"
closing People = []
closing Rfc3339 = []
closing Epoch = []

-- all readings of a local time, or what skips it
abbrev pub readings_due : AnswerForm → ZoneView → List ℕ → ZoneView → List ℕ → ℤ → Due
readings_due form from from_name to to_name x =
    followed (behind (opening form) (convert_due form from from_name to to_name (between form) x)) (Ok (closing form))

-- the answer at an instant; a request has one of its own
abbrev pub own_instant : (List ℕ → Found) → AnswerForm → List ℕ → Option ℤ → Answer
own_instant found form name (Some t) = on_zone found name (λ view. told name (at_due form view name t))
own_instant found form name None = Err (codes "\"now\": a request has an instant of its own, as @1729989000")

abbrev pub at_answer : (List ℕ → Found) → AnswerForm → List ℕ → List (Option ℤ) → Answer
at_answer found form name [] = Err (codes "a request has one instant")
at_answer found form name (time ∷ []) = own_instant found form name time
at_answer found form name (time ∷ next ∷ more) = Err (codes "a request has one instant")

-- the answer to what is asked
abbrev pub answer_of : (List ℕ → Found) → AnswerForm → TaskAsked → Answer
answer_of found form (at_instants name times) = at_answer found form name times
answer_of found form (local_time name x) = on_zone found name (λ view. told name (readings_due form view name view name x))
answer_of found form (converted from to x) =
    on_zone found from (λ view. on_zone found to (λ other. told (at_fault view from to x) (readings_due form view from other to x)))
answer_of found form _ = Err (codes "a request is at, local or convert")

-- the answer to a request that is read, or the words of its fault
abbrev pub answer_for : (List ℕ → Found) → AnswerForm → Request → Answer
answer_for found form request = request >>= (λ task. answer_of found form task)

-- the answer to a line
abbrev pub answer_to : (List ℕ → Found) → AnswerForm → List ℕ → Answer
answer_to found form line = answer_for found form (request_in line)

-- the line of an answer, and that of why there is none
abbrev pub response_of : Answer → List ℕ
response_of (Ok text) = text ++ 10 ∷ []
response_of (Err words) = (codes "? " ++ words) ++ 10 ∷ []

abbrev pub is_fault : Answer → Bool
is_fault (Ok text) = false
is_fault (Err words) = true

abbrev pub stream_replies : (List ℕ → Found) → AnswerForm → Replies
stream_replies found form = record {
  response = λ line. response_of (answer_to found form line);
  is_fault = λ line. is_fault (answer_to found form line);
  to_long = codes "? a request of more than 4,096 bytes" ++ 10 ∷ [];
}
