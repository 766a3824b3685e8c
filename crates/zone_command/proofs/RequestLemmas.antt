-- Lines that are text, and lines that are none.
use Rattle.std.{proofs.Common.{◌≡◌, ℕ, true, false, List, cond, refl, sym, ap, subst, ◌∙◌}, specs.Prelude.{Err, codes}, specs.Str.{is_utf8, IsUtf8}, proofs.lemmas.Str.{IsUtf8-from_is_utf8, is_utf8-from_IsUtf8}}
use Rattle.zone_command.specs.{Answers.{Answer, IsAnswer}, Refusals.{IsTold}, declared.source.Refusal.{Refusal}, declared.source.Refusal.TheVariants.{Why, NoMemory}, Plain.{asked_answer, plain_answer}, Requests.{request_in, request_of, words_of}}
use Rattle.zone_answers.specs.Requests.{request_of as plain_of}
use Rattle.zone_table.specs.declared.table.Table.{Table}

-- what is made of a text, and what in place of it of bytes that are none
pub if_text : {A : Type 0} (make : List ℕ → A) (none : A) (line text : List ℕ) → text ≡ line → IsUtf8 line
    → make text ≡ cond (is_utf8 line) (make line) none
if_text make none line text same is = ap make same ∙ sym (ap (λ b. cond b (make line) none) (is_utf8-from_IsUtf8 line is))

pub if_no_text : {A : Type 0} (make : List ℕ → A) (none : A) (line : List ℕ) → ¬ (IsUtf8 line) → cond (is_utf8 line) (make line) none ≡ none
if_no_text make none line no_text =
    elim (is_utf8 line) as (λ b. is_utf8 line ≡ b → cond b (make line) none ≡ none) [
      | true ↦ λ is. absurd (no_text (IsUtf8-from_is_utf8 line is))
      | false ↦ λ is. refl
    ] refl

pub of_text : (line text : List ℕ) → text ≡ line → IsUtf8 line → request_of (words_of text) ≡ request_in line
unfolding request_in
of_text line text = if_text (λ t. request_of (words_of t)) (Err (codes "a request is text in UTF-8")) line text

pub no_text : (line : List ℕ) → ¬ (IsUtf8 line) → request_in line ≡ Err (codes "a request is text in UTF-8")
unfolding request_in
no_text line = if_no_text (λ t. request_of (words_of t)) (Err (codes "a request is text in UTF-8")) line

-- a text of a request of `zone_answers`
pub plain_text : (table : Table) (line text : List ℕ) → text ≡ line → IsUtf8 line → asked_answer table (plain_of text) ≡ plain_answer table line
unfolding plain_answer
plain_text table line text = if_text (λ t. asked_answer table (plain_of t)) (Err (codes "a request is text in UTF-8")) line text

pub no_plain_text : (table : Table) (line : List ℕ) → ¬ (IsUtf8 line) → plain_answer table line ≡ Err (codes "a request is text in UTF-8")
unfolding plain_answer
no_plain_text table line = if_no_text (λ t. asked_answer table (plain_of t)) (Err (codes "a request is text in UTF-8")) line

-- an answer that is these words
pub refused_is : (answer : Answer) (why : List ℕ) (refusal : Refusal) → answer ≡ Err why → IsTold (λ words. words ≡ why) refusal
    → IsAnswer answer (Err refusal)
refused_is answer why (Why words) e is = let P : List ℕ → Type 0 = λ w. answer ≡ Err w in subst P (sym is) e
refused_is answer why NoMemory e is = tt

pub refused_told : (answer : Answer) (why : List ℕ) (refusal : Refusal) → answer ≡ Err why → IsTold (λ words. words ≡ why) refusal
    → IsTold (λ words. answer ≡ Err words) refusal
refused_told answer why (Why words) e is = e ∙ ap Err (sym is)
refused_told answer why NoMemory e is = tt
