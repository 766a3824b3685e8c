-- Texts that are due between others, and one behind another.
use Rattle.std.proofs.{Common.{◌≡◌, cond, false, nat_lt, ℕ, suc, ◌+◌, ◌<◌, ◌≤◌, List, [], ◌∷◌, ◌++◌, length, map, drop, slice_index_or, append_assoc, append-nil, ap, subst, sym, ◌∙◌, refl, arith}, lemmas.List.{at_drop_more, at_drop_all}}
use Rattle.std.specs.{Prelude.{Ok, Err}, Result.{result_unwrap_or}}
use Rattle.zone_texts.specs.{DueLaws.{behind_err, pass, stepped}, Faults.{Due, behind, each_due, followed, IsFaultOf}, declared.fault.ReplyFault.{ReplyFault}, declared.fault.ReplyFault.TheVariants.{OutOfYears, Untold}, Charts.{are_untold, chart_due, drawing_due}, SeenZones.{Named}, Escapes.{escaped_due, escaped_text}, Frames.{each_numbered, framed}}

text_is : (a b : List ℕ) → (let x : Due = Ok a in let y : Due = Ok b in x ≡ y) → a ≡ b
text_is a b e = ap (λ r. result_unwrap_or r []) e

no_text : {A : Type 0} → (a : List ℕ) (f : ReplyFault) → (let x : Due = Ok a in let y : Due = Err f in x ≡ y) → A
no_text a f e = cc

pub framed_is : (old mid new head tail : List ℕ) (d : Due) → Ok mid ≡ behind (old ++ head) d → new ≡ mid ++ tail → Ok new ≡ behind old (framed head d tail)
framed_is old mid new head tail (Ok p) made added =
    ap Ok (added ∙ ap (λ m. m ++ tail) (text_is mid ((old ++ head) ++ p) made ∙ append_assoc old head p) ∙ append_assoc old (head ++ p) tail
    ∙ ap (λ t. old ++ t) (append_assoc head p tail))
framed_is old mid new head tail (Err f) made added = no_text mid f made

pub framed_at : (old first mid new head tail : List ℕ) (d : Due) → first ≡ old ++ head → Ok mid ≡ behind first d → new ≡ mid ++ tail
    → Ok new ≡ behind old (framed head d tail)
framed_at old first mid new head tail d begun made added = framed_is old mid new head tail d (made ∙ ap (λ t. behind t d) begun) added

pub framed_fault : (head tail : List ℕ) (d : Due) (f : ReplyFault) → IsFaultOf d f → IsFaultOf (framed head d tail) f
framed_fault head tail d f e = pass d (framed head d tail) (λ g h. ap (λ x. framed head x tail) h) f e

pub within : (head mid new tail : List ℕ) (d due : Due) → due ≡ d → Ok mid ≡ behind head d → new ≡ mid ++ tail → framed head due tail ≡ Ok new
within head mid new tail (Ok p) due is made added =
    ap (λ x. framed head x tail) is ∙ sym (ap Ok (added ∙ ap (λ m. m ++ tail) (text_is mid (head ++ p) made) ∙ append_assoc head p tail))
within head mid new tail (Err f) due is made added = no_text mid f made

pub escaped_is : (old start title new : List ℕ) (d : Due) → start ≡ [] → Ok title ≡ behind start d → new ≡ old ++ escaped_text title → Ok new ≡ behind old (escaped_due d)
escaped_is old start title new (Ok p) none made added =
    ap Ok (added ∙ ap (λ t. old ++ escaped_text t) (text_is title (start ++ p) made ∙ ap (λ s. s ++ p) none))
escaped_is old start title new (Err f) none made added = no_text title f made

pub escaped_fault : (d : Due) (f : ReplyFault) → IsFaultOf d f → IsFaultOf (escaped_due d) f
escaped_fault d f e = pass d (escaped_due d) (λ g h. ap escaped_due h) f e

pub chart_is : (zones : List Named) (year : ℕ) → nat_lt 9999 year ≡ false → are_untold year zones ≡ false
    → chart_due zones year ≡ each_numbered (drawing_due year) 0 zones
unfolding chart_due
chart_is zones year small told = λ i. cond (small i) (Err OutOfYears) (cond (told i) (Err Untold) (each_numbered (drawing_due year) 0 zones))

after : (n : ℕ) → suc n ≡ n + 1
after n = omega arith

next_is : {A B : Type 0} → (due : ℕ → B → Due) (show : A → B) (xs : List A) (n : ℕ) (default x : A) → n < length xs → x ≡ slice_index_or xs n default
    → each_numbered due n (map show (drop n xs)) ≡ followed (due n (show x)) (each_numbered due (n + 1) (map show (drop (n + 1) xs)))
unfolding each_numbered
next_is due show xs n default x l is =
    at_drop_more (λ ys. each_numbered due n (map show ys)) xs n default l
    ∙ ap (λ k. followed (due n (show (slice_index_or xs n default))) (each_numbered due k (map show (drop (n + 1) xs)))) (after n)
    ∙ ap (λ y. followed (due n (show y)) (each_numbered due (n + 1) (map show (drop (n + 1) xs)))) (sym is)

-- in a loop over items, with what is due of them by their numbers
pub loop_more : {A B : Type 0} → (due : ℕ → B → Due) (show : A → B) (xs : List A) (n : ℕ) (default x : A) (now new : List ℕ) (all : Due)
    → n < length xs → x ≡ slice_index_or xs n default → behind now (each_numbered due n (map show (drop n xs))) ≡ all
    → Ok new ≡ behind now (due n (show x)) → behind new (each_numbered due (n + 1) (map show (drop (n + 1) xs))) ≡ all
loop_more due show xs n default x now new all l is left e =
    stepped now new (due n (show x)) (each_numbered due (n + 1) (map show (drop (n + 1) xs))) e ∙ sym (ap (behind now) (next_is due show xs n default x l is)) ∙ left

pub loop_fault : {A B : Type 0} → (due : ℕ → B → Due) (show : A → B) (xs : List A) (n : ℕ) (default x : A) (old now : List ℕ) (all : Due)
    → n < length xs → x ≡ slice_index_or xs n default → behind now (each_numbered due n (map show (drop n xs))) ≡ behind old all
    → (f : ReplyFault) → IsFaultOf (due n (show x)) f → IsFaultOf all f
loop_fault due show xs n default x old now all l is left f e =
    pass (due n (show x)) all
    (λ g h. behind_err old all g
    (sym left ∙ ap (behind now) (next_is due show xs n default x l is) ∙ ap (λ d. behind now (followed d (each_numbered due (n + 1) (map show (drop (n + 1) xs))))) h)) f e

pub loop_end : {A B : Type 0} → (due : ℕ → B → Due) (show : A → B) (xs : List A) (n : ℕ) (now : List ℕ) (all : Due)
    → length xs ≤ n → behind now (each_numbered due n (map show (drop n xs))) ≡ all → Ok now ≡ all
unfolding each_numbered
loop_end due show xs n now all l left =
    ap Ok (sym (append-nil now)) ∙ sym (ap (behind now) (at_drop_all (λ ys. each_numbered due n (map show ys)) xs n l)) ∙ left

-- where the number doesn't matter
pub any_number : {A : Type 0} → (due : A → Due) (n : ℕ) (xs : List A) → each_numbered (λ _. due) n xs ≡ each_due due xs
unfolding each_numbered each_due
any_number due n [] = refl
any_number due n (x ∷ xs) = ap (followed (due x)) (any_number due (suc n) xs)
