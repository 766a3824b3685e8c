-- What is held, and what may be asked.
use Rattle.std.{proofs.Common.{◌≡◌, ℕ, Bool, true, refl, sym, ◌∙◌, subst}, specs.Prelude.{Option, Some, None, MatchOption, IsSomeAnd}}
use Rattle.sefunjaro.specs.declared.zone.OpenZone.{OpenZone}
use Rattle.sefunjaro_c.specs.{Held.{OfZone, OnZone}, declared.opened.Opened.{Opened}, Answers.{Where, Within}}

-- what holds of the value that is read holds of what the handle holds
pub handed : {B : Type 0} (b : B) (value : B → Opened) (held : Option Opened) (now : Opened) (status : ℕ) (kept : Type 0) (P : OpenZone → Type 0)
    → MatchOption held (Some b ≡ None) (λ opened. IsSomeAnd (Some b) (λ taken. value taken ≡ opened)) → now ≡ value b
    → OfZone now status kept P → OnZone held status kept P
handed {B} b value None now status kept P taken is h = absurd (no taken)
  where
    no : Some b ≡ None → ⊥
    no e = cc
handed b value (Some opened) now status kept P taken is h = subst (λ o. OfZone o status kept P) (is ∙ taken) h

-- what holds of a zone that is held
pub of_zone : (o p : Opened) (status : ℕ) (kept : Type 0) (P : OpenZone → Type 0) → o ≡ p → OfZone p status kept P → OfZone o status kept P
of_zone o p status kept P e h = subst (λ q. OfZone q status kept P) (sym e) h

pub where_true : (b : Bool) (kept P : Type 0) → b ≡ true → P → Where b 0 kept P
where_true b kept P e h = subst (λ c. Where c 0 kept P) (sym e) (refl, h)

pub within_true : (b : Bool) (status : ℕ) (kept P : Type 0) → b ≡ true → P → Within b status kept P
within_true b status kept P e h = subst (λ c. Within c status kept P) (sym e) h
