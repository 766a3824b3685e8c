-- Answers that are known to be found.
use Rattle.std.{proofs.Common.{◌≡◌, ap, subst, Option, Some, None, Result, Ok, Err}, specs.Prelude.{IsOk, IfOk}, specs.Result.{result_ok}, proofs.lemmas.Bool.{false≢true}}

pub result_ok-found : {T E : Type 0} (r : Result T E) (v : T) → IsOk r → IfOk r (λ x. x ≡ v) → result_ok r ≡ Some v
result_ok-found (Ok x) v h e = ap Some e
result_ok-found (Err x) v h e = absurd (false≢true h)

-- what is found is no `None`
pub not_none : {T : Type 0} (o : Option T) (v : T) → o ≡ Some v → o ≡ None → ⊥
not_none o v some none = cc

pub ok_not_none : {T E : Type 0} (r : Result T E) → IsOk r → result_ok r ≡ None → ⊥
ok_not_none (Ok x) h e = cc
ok_not_none (Err x) h e = false≢true h

-- what is known of the value that is found
pub ok_known : {T E : Type 0} (P : T → Type 0) (r : Result T E) (v : T) → result_ok r ≡ Some v → IfOk r P → P v
ok_known P (Ok x) v e h = let same : x ≡ v = cc in subst P same h
ok_known P (Err x) v e h = absurd (none_some e)
  where
    none_some : None ≡ Some v → ⊥
    none_some q = cc

pub same_some : {T : Type 0} (o : Option T) (a b : T) → o ≡ Some a → o ≡ Some b → a ≡ b
same_some o a b p q = cc
