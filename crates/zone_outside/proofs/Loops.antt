-- Steps of the loops over a source and a sink.
use Rattle.std.proofs.{Common.{◌≡◌, ℕ, ◌+◌, ◌≤◌, List, ◌++◌, length, take, drop, Option, Some, None, IfSome, refl, sym, ap, ◌∙◌, subst, arith}, Math.Seq.{drop-append_seam}}
use Rattle.std.proofs.lemmas.List.{append_assoc, take-take, drop-take, take-append-drop, length-take-le, drop-drop, take_at, nil_from_length}
use Rattle.zone_outside.specs.Outside.{Consumes, KeepsNames, LeavesRest}

-- of these bytes, some were read and the rest is left
pub record HasRead (read : List ℕ) (left : Option (List ℕ)) (bytes : List ℕ) : Type 0 where
  pub rest : List ℕ
  pub parts : bytes ≡ read ++ rest
  pub left_is : left ≡ Some rest

-- after some bytes were read, and n more, the rest is left
pub rest_left : (first mid new : Option (List ℕ)) (read into : List ℕ) (n : ℕ) → IfSome first (HasRead read mid)
    → IfSome mid (λ bytes. Consumes bytes new into n) → LeavesRest first new
rest_left None mid new read into n had more = tt
rest_left (Some bytes) mid new read into n had more = (
  length (read ++ take n into),
  step.left_is
      ∙ ap Some (sym (ap (drop (length (read ++ take n into))) parts ∙ drop-append_seam (read ++ take n into) step.rest)),
)
  where
    step : Consumes had.rest new into n
    step = subst (λ o. IfSome o (λ bytes. Consumes bytes new into n)) had.left_is more

    parts : bytes ≡ (read ++ take n into) ++ step.rest
    parts = had.parts ∙ ap (λ t. read ++ t) step.parts ∙ sym (append_assoc read (take n into) step.rest)

-- the same where no more was read
pub rest_is : (first mid new : Option (List ℕ)) (read : List ℕ) → IfSome first (HasRead read mid) → new ≡ mid → LeavesRest first new
rest_is None mid new read had same = tt
rest_is (Some bytes) mid new read had same =
    (length read, same ∙ had.left_is ∙ ap Some (sym (ap (drop (length read)) had.parts ∙ drop-append_seam read had.rest)))

-- what holds of all that is left holds of the text that was fetched
pub of_fetched : (P : List ℕ → Type 0) (told left : Option (List ℕ)) → IfSome told (λ text. left ≡ Some text) → IfSome left P → IfSome told P
of_fetched P None left fetched holds = tt
of_fetched P (Some text) left fetched holds = subst (λ o. IfSome o P) fetched holds

-- one call keeps what another kept
pub keeps_on : {told mid now : List ℕ → Option (List ℕ)} {open_to open_mid open_now : List ℕ → Type 0}
    → KeepsNames told mid open_to open_mid → KeepsNames mid now open_mid open_now → KeepsNames told now open_to open_now
keeps_on first then = record {
  texts = λ name. then.texts name ∙ first.texts name;
  names = λ name. (λ is. (then.names name).0 ((first.names name).0 is), λ is. (first.names name).1 ((then.names name).1 is));
}

-- after n more bytes, those were read too
pub has_read_more : (first mid new : Option (List ℕ)) (read into : List ℕ) (n : ℕ) → IfSome first (HasRead read mid)
    → IfSome mid (λ bytes. Consumes bytes new into n) → IfSome first (HasRead (read ++ take n into) new)
has_read_more None mid new read into n had more = tt
has_read_more (Some bytes) mid new read into n had more = record {
  rest = step.rest;
  parts = had.parts ∙ ap (λ t. read ++ t) step.parts ∙ sym (append_assoc read (take n into) step.rest);
  left_is = step.left_is;
}
  where
    step : Consumes had.rest new into n
    step = subst (λ o. IfSome o (λ bytes. Consumes bytes new into n)) had.left_is more

-- after the first bytes of a text, a sink took the next n
pub taken_more : (bytes piece : List ℕ) (at n : ℕ) (first mid new : Option (List ℕ)) → piece ≡ drop at bytes
    → IfSome first (λ had. mid ≡ Some (had ++ take at bytes)) → IfSome mid (λ had. new ≡ Some (had ++ take n piece))
    → IfSome first (λ had. new ≡ Some (had ++ take (at + n) bytes))
taken_more bytes piece at n None mid new p h k = tt
taken_more bytes piece at n (Some had) mid new p h k =
    let now = subst (λ o. IfSome o (λ had. new ≡ Some (had ++ take n piece))) h k in
    let parts : take at bytes ++ take n (drop at bytes) ≡ take (at + n) bytes =
    (λ i. sym (take-take at (at + n) bytes (omega arith)) i ++ sym (drop-take at n bytes) i) ∙ take-append-drop at (take (at + n) bytes) in
    now ∙ ap (λ t. Some ((had ++ take at bytes) ++ take n t)) p ∙ ap Some (append_assoc had _ _ ∙ ap (λ t. had ++ t) parts)

-- the front of some bytes was copied to the front of a buffer
pub consumed : (from into part : List ℕ) (n : ℕ) → part ≡ take n from → n ≤ length from → (n ≡ 0 → length from ≡ 0)
    → Consumes from (Some (drop n from)) (part ++ drop n into) n
consumed from into part n is fits ended =
    let long : length part ≡ n = ap length is ∙ length-take-le n from fits in
    record {
      rest = drop n from;
      parts = sym (take-append-drop n from) ∙ (λ i. (sym is ∙ sym (take_at part (drop n into) n long)) i ++ drop n from);
      left_is = refl;
      ended = λ z. ap (λ k. drop k from) z ∙ nil_from_length from (ended z);
    }

-- the same of what is left from a place on
pub consumed_at : (bytes into : List ℕ) (at n : ℕ) → Consumes (drop at bytes) (Some (drop n (drop at bytes))) into n
    → Consumes (drop at bytes) (Some (drop (at + n) bytes)) into n
consumed_at bytes into at n h = let step : drop n (drop at bytes) ≡ drop (at + n) bytes = drop-drop n at bytes in rw (← step) h
