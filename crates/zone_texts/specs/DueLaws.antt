-- Texts that are due, one behind another.
use Rattle.std.proofs.{Common.{◌≡◌, ℕ, ◌+◌, ◌<◌, ◌≤◌, List, [], ◌++◌, length, map, drop, slice_index_or, append_assoc, append-nil, ap, subst, sym, ◌∙◌, refl}, lemmas.List.{at_drop_more, at_drop_all}}
use Rattle.std.specs.{Prelude.{Ok, Err}, Result.{result_unwrap_or}}
use Rattle.zone_texts.specs.{Faults.{Due, behind, each_due, followed, IsFaultOf}, declared.fault.ReplyFault.{ReplyFault}, declared.fault.ReplyFault.TheVariants.{OutOfYears, Untold, Skipped, NoMemory}}

-- the fault of one is that of another
pub pass : (d due : Due) → ((f : ReplyFault) → d ≡ Err f → due ≡ Err f) → (f : ReplyFault) → IsFaultOf d f → IsFaultOf due f
pass d due h OutOfYears e = h OutOfYears e
pass d due h Untold e = h Untold e
pass d due h Skipped e = h Skipped e
pass d due h NoMemory e = tt

inside : (a b : List ℕ) → (let x : Due = Ok a in let y : Due = Ok b in x ≡ y) → a ≡ b
inside a b e = ap (λ r. result_unwrap_or r []) e

no_ok : {A : Type 0} → (a : List ℕ) (f : ReplyFault) → (let x : Due = Ok a in let y : Due = Err f in x ≡ y) → A
no_ok a f e = cc

-- two added one after another
pub joined : (old mid new : List ℕ) (d r : Due) → Ok mid ≡ behind old d → Ok new ≡ behind mid r → Ok new ≡ behind old (followed d r)
joined old mid new (Ok p) (Ok q) a b = b ∙ ap (λ m. Ok (m ++ q)) (inside mid (old ++ p) a) ∙ ap Ok (append_assoc old p q)
joined old mid new (Ok p) (Err f) a b = b
joined old mid new (Err f) r a b = no_ok mid f a

-- the fault of the first, and of the second
pub first : (d r : Due) (f : ReplyFault) → IsFaultOf d f → IsFaultOf (followed d r) f
first d r f e = pass d (followed d r) (λ g h. ap (λ x. followed x r) h) f e

pub second : (old mid : List ℕ) (d r : Due) → Ok mid ≡ behind old d → (f : ReplyFault) → IsFaultOf r f → IsFaultOf (followed d r) f
second old mid (Ok p) r a f e = pass r (behind p r) (λ g h. ap (behind p) h) f e
second old mid (Err g) r a f e = no_ok mid g a

-- a text before what is due
pub after : (old text new : List ℕ) (d : Due) → Ok new ≡ behind (old ++ text) d → Ok new ≡ behind old (behind text d)
after old text new (Ok p) e = e ∙ ap Ok (append_assoc old text p)
after old text new (Err f) e = e

pub after_fault : (text : List ℕ) (d : Due) (f : ReplyFault) → IsFaultOf d f → IsFaultOf (behind text d) f
after_fault text d f e = pass d (behind text d) (λ g h. ap (behind text) h) f e

-- what is left after one of a list
pub stepped : (now new : List ℕ) (d r : Due) → Ok new ≡ behind now d → behind new r ≡ behind now (followed d r)
stepped now new (Ok p) (Ok q) e = ap (λ n. Ok (n ++ q)) (inside new (now ++ p) e) ∙ ap Ok (append_assoc now p q)
stepped now new (Ok p) (Err f) e = refl
stepped now new (Err f) r e = no_ok new f e

pub behind_err : (old : List ℕ) (d : Due) (f : ReplyFault) → behind old d ≡ Err f → d ≡ Err f
behind_err old (Ok p) f e = no_ok (old ++ p) f e
behind_err old (Err g) f e = e

next_is : {A B : Type 0} → (due : B → Due) (show : A → B) (xs : List A) (n : ℕ) (default x : A) → n < length xs → x ≡ slice_index_or xs n default
    → each_due due (map show (drop n xs)) ≡ followed (due (show x)) (each_due due (map show (drop (n + 1) xs)))
unfolding each_due
next_is due show xs n default x l is =
    at_drop_more (λ ys. each_due due (map show ys)) xs n default l
    ∙ ap (λ y. followed (due (show y)) (each_due due (map show (drop (n + 1) xs)))) (sym is)

-- in a loop over items, with what is due of them and of all
pub loop_more : {A B : Type 0} → (due : B → Due) (show : A → B) (xs : List A) (n : ℕ) (default x : A) (old now new : List ℕ) (all : Due)
    → n < length xs → x ≡ slice_index_or xs n default → behind now (each_due due (map show (drop n xs))) ≡ behind old all
    → Ok new ≡ behind now (due (show x)) → behind new (each_due due (map show (drop (n + 1) xs))) ≡ behind old all
loop_more due show xs n default x old now new all l is left e =
    stepped now new (due (show x)) (each_due due (map show (drop (n + 1) xs))) e ∙ sym (ap (behind now) (next_is due show xs n default x l is)) ∙ left

pub loop_fault : {A B : Type 0} → (due : B → Due) (show : A → B) (xs : List A) (n : ℕ) (default x : A) (old now : List ℕ) (all : Due)
    → n < length xs → x ≡ slice_index_or xs n default → behind now (each_due due (map show (drop n xs))) ≡ behind old all
    → (f : ReplyFault) → IsFaultOf (due (show x)) f → IsFaultOf all f
loop_fault due show xs n default x old now all l is left f e =
    pass (due (show x)) all
    (λ g h. behind_err old all g
    (sym left ∙ ap (behind now) (next_is due show xs n default x l is) ∙ ap (λ d. behind now (followed d (each_due due (map show (drop (n + 1) xs))))) h)) f e

pub loop_end : {A B : Type 0} → (due : B → Due) (show : A → B) (xs : List A) (n : ℕ) (old now : List ℕ) (all : Due)
    → length xs ≤ n → behind now (each_due due (map show (drop n xs))) ≡ behind old all → Ok now ≡ behind old all
unfolding each_due
loop_end due show xs n old now all l left =
    ap Ok (sym (append-nil now)) ∙ sym (ap (behind now) (at_drop_all (λ ys. each_due due (map show ys)) xs n l)) ∙ left

-- a text that is made alone and added whole
pub whole : (old start text new : List ℕ) (d : Due) → start ≡ [] → Ok text ≡ behind start d → new ≡ old ++ text → Ok new ≡ behind old d
whole old start text new (Ok p) none made added = ap Ok (added ∙ ap (λ t. old ++ t) (inside text (start ++ p) made ∙ ap (λ s. s ++ p) none))
whole old start text new (Err f) none made added = no_ok text f made

pub moved : (d due : Due) → d ≡ due → (f : ReplyFault) → IsFaultOf d f → IsFaultOf due f
moved d due e f h = let P : Due → Type 0 = λ x. IsFaultOf x f in subst P e h
