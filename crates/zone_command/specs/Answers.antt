-- Answers: texts, or the words that tell why there is none.
use Rattle.std.specs.{Prelude.{◌≡◌, ℕ, List, Result, Ok, Err, Vec}, declared.alloc.Global.{Global}}
use Rattle.zone_command.specs.{Due.{Due as Delivered}, Refusals.{fault_words, name_words, told_line}, declared.source.Refusal.{Refusal}, declared.source.Refusal.TheVariants.{Why, NoMemory}}
use Rattle.zone_texts.specs.{Faults.{Due, IsFaultOf}, declared.fault.ReplyFault.{ReplyFault}}

abbrev pub Answer : Type 0
Answer = Result (List ℕ) (List ℕ)

infixl 10 ◌>>=◌
abbrev pub ◌>>=◌ : {A B E : Type 0} → Result A E → (A → Result B E) → Result B E
◌>>=◌ (Ok x) next = next x
◌>>=◌ (Err e) next = Err e

-- the reply, or its fault, which is told of a name
abbrev pub told : List ℕ → Due → Answer
told name (Ok text) = Ok text
told name (Err fault) = Err (name_words name (fault_words fault))

-- with a name in front of the words that tell why there is none
abbrev pub of_name : List ℕ → Answer → Answer
of_name name (Ok text) = Ok text
of_name name (Err why) = Err (name_words name why)

-- the words as a line
abbrev pub lined : Answer → Delivered
lined (Ok text) = Ok text
lined (Err words) = Err (told_line words)

-- the result is the reply that is due, or its fault; or memory ran out
abbrev pub IsReply : Due → Result (Vec ℕ Global) ReplyFault → Type 0
IsReply due (Ok text) = due ≡ Ok text.items
IsReply due (Err fault) = IsFaultOf due fault

-- the result is the answer, or memory ran out
abbrev pub IsAnswer : Answer → Result (Vec ℕ Global) Refusal → Type 0
IsAnswer answer (Ok text) = answer ≡ Ok text.items
IsAnswer answer (Err (Why words)) = answer ≡ Err words.items
IsAnswer answer (Err NoMemory) = Unit {0}

-- the result is an answer of which this is said, or memory ran out
abbrev pub IsGiven : (Answer → Type 0) → Result (Vec ℕ Global) Refusal → Type 0
IsGiven says (Ok text) = says (Ok text.items)
IsGiven says (Err (Why words)) = says (Err words.items)
IsGiven says (Err NoMemory) = Unit {0}

-- the same with a name in front of the words that tell why there is none
abbrev pub OfName : List ℕ → (Answer → Type 0) → Answer → Type 0
OfName name says (Ok text) = says (Ok text)
OfName name says (Err words) = (why : List ℕ) × says (Err why) × (words ≡ name_words name why)
