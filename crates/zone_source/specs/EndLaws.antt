-- After the lines, after the line of a fault and for want of memory a run ends by the cause of its texts; and an input that holds
-- nothing ends no run.
use Rattle.std.{proofs.Common.{◌≡◌, ◌≢◌, ◌⊎◌, Option, Some, None, refl, sym, inl, inr, arith}, specs.Prelude.{IsSome}, proofs.lemmas.Option.{none-some}}
use Rattle.zone_outside.specs.{Limit.{text_limit}, Outside.{Rose, TooMuch}, Seen.{ShelfSeen}}
use Rattle.zone_source.specs.{Runs.{EndsWell, Work, no_input, writes_asked}, Statuses.{EndsBy}}
use Rattle.zone_source.specs.declared.running.Status.TheVariants as status

pub ends_valid : {C : Type 0} → (found : Option C) → found ≡ None → EndsBy found status.Done
ends_valid None is = inl refl
ends_valid (Some f) is = absurd (none-some _ (sym is))

pub ends_refused : {C : Type 0} → (found : Option C) → found ≢ None → EndsBy found status.Fault
ends_refused None other = absurd (other refl)
ends_refused (Some f) other = inl refl

ends_told : {C : Type 0} → (found : Option C) → IsSome found → EndsBy found status.Fault
ends_told None h = absurd (cc)
ends_told (Some f) h = inl refl

pub ends_without : {C : Type 0} → (found : Option C) → EndsBy found status.NoMemory
ends_without None = inr refl
ends_without (Some f) = inr refl

-- so does a run over one file
pub asked_ends_well : {T C : Type 0} → (work : Work T C) (t : T) → EndsWell (writes_asked work (Some t))
asked_ends_well work t = record {
  lines = λ source _ _ _ wrote. ends_valid (work.cause t source) wrote.0;
  fault = λ source _ _ _ wrote. ends_told (work.cause t source) wrote.0;
  memory = λ source _. ends_without (work.cause t source);
}

-- an input that holds nothing never fails, and gives nothing
never_rose : ¬ (Rose 0 0)
never_rose h = absurd (omega (arith, h))

never_too_much : ¬ (TooMuch text_limit 0 0)
never_too_much h = absurd (omega (arith, h))

-- so without an input it was a call of the shelf that failed
pub shelf_failed : {A : Type 0} → (before now : ShelfSeen) → (Rose before.faults now.faults × A) ⊎ Rose no_input.faults no_input.faults
    → Rose before.faults now.faults
shelf_failed before now (inl h) = h.0
shelf_failed before now (inr h) = absurd (never_rose h)

-- and the shelf that gave too much
pub shelf_too_long : {A : Type 0} → (before now : ShelfSeen)
    → (TooMuch text_limit before.given now.given × A) ⊎ TooMuch text_limit no_input.given no_input.given
    → TooMuch text_limit before.given now.given
shelf_too_long before now (inl h) = h.0
shelf_too_long before now (inr h) = absurd (never_too_much h)
