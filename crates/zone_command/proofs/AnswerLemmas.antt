-- Answers by the zones that names found.
use Rattle.std.{proofs.lemmas.List.{length-map}, proofs.Common.{◌≡◌, ℕ, ℤ, List, [], length, map, Option, Some, None, IfSome, Ok, Err, Bool, true, false, cond, refl, sym, subst, ◌∙◌, int_cmp, int_lt, is_lt, Less, Equal, Greater}, specs.Prelude.{Result, Vec}, specs.declared.alloc.Global.{Global}}
use Rattle.zone_command.specs.{Answers.{told, IsAnswer, IsReply, ◌>>=◌}, Due.{Due as Delivered, IsDue}, Named.{Found, named_in}, Replies.{list_answer, list_lines, on_zone}, declared.answerer.AnswerFault.{AnswerFault, TheVariants.{Line, NoMemory}}, declared.source.Refusal.{Refusal}}
use Rattle.zone_words.specs.declared.answer_form.AnswerForm.{AnswerForm}
use Rattle.zone_texts.specs.{Faults.{Due}, Views.{ZoneView}, declared.fault.ReplyFault.{ReplyFault}}

-- of one zone
pub answered : (found : List ℕ → Found) (name who : List ℕ) (reply : ZoneView → Due) {view : ZoneView} (lines : Result (Vec ℕ Global) ReplyFault)
    (r : Result (Vec ℕ Global) Refusal) → named_in found name ≡ Ok view → IsReply (reply view) lines
    → ((due : Due) → IsReply due lines → IsAnswer (told who due) r) → IsAnswer (on_zone found name (λ v. told who (reply v))) r
answered found name who reply {view = view} lines r is replies tells =
    let P : Found → Type 0 = λ z. IsAnswer (z >>= (λ v. told who (reply v))) r in
    subst P (sym is) (tells (reply view) replies)

-- of two
pub answered_both : (found : List ℕ → Found) (from to : List ℕ) (who : ZoneView → List ℕ) (reply : ZoneView → ZoneView → Due) {view other : ZoneView}
    (lines : Result (Vec ℕ Global) ReplyFault) (r : Result (Vec ℕ Global) Refusal) → named_in found from ≡ Ok view → named_in found to ≡ Ok other
    → IsReply (reply view other) lines → ((due : Due) → IsReply due lines → IsAnswer (told (who view) due) r)
    → IsAnswer (on_zone found from (λ v. on_zone found to (λ o. told (who v) (reply v o)))) r
answered_both found from to who reply {view = view} lines r is is_other replies tells =
    let P : Found → Type 0 = λ z. IsAnswer (z >>= (λ v. on_zone found to (λ o. told (who v) (reply v o)))) r in
    subst P (sym is) (answered found to (who view) (reply view) lines r is_other replies tells)

-- as many instants as readings
pub as_many : {A B : Type 0} (f : A → B) (xs : List A) → length (map f xs) ≡ length xs
as_many f xs = length-map xs f

-- of a window that ends after it begins
pub in_window : (found : List ℕ → Found) (form : AnswerForm) (name : List ℕ) (from to : ℤ) (word : List ℕ) (r : Result (Vec ℕ Global) Refusal)
    → is_lt (int_cmp from to) ≡ true → IsAnswer (on_zone found name (λ view. told name (list_lines form view name from to))) r
    → IsAnswer (list_answer found form name from to word) r
in_window found form name from to word r after answers = rw (below (int_lt from to) (int_lt to from) after) answers
  where
    below : (b c : Bool) → is_lt (cond b Less (cond c Greater Equal)) ≡ true → b ≡ true
    below true c e = refl
    below false true e = absurd cc
    below false false e = absurd cc

-- what is due of the text that was read whole is due over its file
pub over_text : {D : Type 0} (due : List ℕ → D → Type 0) (told left : Option (List ℕ)) (items read : List ℕ) (it : D)
    → IfSome told (λ text. (items ≡ text) × (left ≡ Some [])) → read ≡ items → due read it → IfSome told (λ text. (left ≡ Some []) × due text it)
over_text due None left items read it whole same is = tt
over_text due (Some text) left items read it whole same is = (whole.1, subst (λ t. due t it) (same ∙ whole.0) is)

-- what is due in one way is due in another
pub due_so : (D E : Delivered → Type 0) (r : Result (Vec ℕ Global) AnswerFault) → ((due : Delivered) → D due → E due) → IsDue D r → IsDue E r
due_so D E (Ok bytes) so is = so (Ok bytes.items) is
due_so D E (Err (Line line)) so is = so (Err line.items) is
due_so D E (Err NoMemory) so is = tt
