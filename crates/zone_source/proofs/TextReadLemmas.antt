-- What holds of a run after both of its texts were read, or the first of them.
use Rattle.std.proofs.Common.{◌≡◌, ◌⊎◌, ℕ, ◌+◌, ◌<◌, ◌≤◌, List, [], Option, Some, None, IfSome, length, refl, subst, inl, inr, arith}
use Rattle.zone_outside.specs.{Outside.{Counted, Rose, TooMuch}, Seen.{InputSeen}, declared.outside.ReadEnd.{ReadEnd}, declared.outside.TheConstants.{LIMIT}}
use Rattle.zone_outside.specs.declared.outside.ReadEnd.TheVariants as read
use Rattle.zone_source.specs.{Statuses.{IsWritten}, Runs.{Seen}}
use Rattle.zone_source.specs.declared.running.Status.TheVariants as status

-- a text was read to its end
pub record Read (told left_now : Option (List ℕ)) (had gave : ℕ) (bytes : List ℕ) : Type 0 where
  pub text : IfSome told (λ text. (bytes ≡ text) × (left_now ≡ Some []))
  pub within : length bytes ≤ LIMIT
  pub given : Counted had gave (length bytes)

pub record BothRead (name : List ℕ) (before now : Seen) (source requests : List ℕ) : Type 0 where
  pub shelf : Read (before.shelf.told name) now.shelf.left before.shelf.given now.shelf.given source
  pub input : Read before.input.left now.input.left before.input.given now.input.given requests

-- a text was not read to its end
pub record NotRead (before now : InputSeen) (end : ReadEnd) : Type 0 where
  pub failed : end ≡ read.Failed → Rose before.faults now.faults
  pub long : end ≡ read.TooLong → TooMuch LIMIT before.given now.given
  pub long_text : end ≡ read.TooLong → IfSome before.left (λ left. LIMIT < length left)
  pub failed_given : end ≡ read.Failed → now.given ≤ before.given + LIMIT

-- what holds of the texts that were read holds where they are told
pub where_told : (o p : Option (List ℕ)) (A B : Type 0) (source requests : List ℕ) (P : List ℕ → List ℕ → Type 0) →
    IfSome o (λ text. (source ≡ text) × A) → IfSome p (λ text. (requests ≡ text) × B) → P source requests → IfSome o (λ s. IfSome p (P s))
where_told None p A B source requests P a b h = tt
where_told (Some s) None A B source requests P a b h = tt
where_told (Some s) (Some r) A B source requests P a b h = subst (λ s. P s r) a.0 (subst (P source) b.0 h)

pub not_more : (given now n : ℕ) → Counted given now n → n ≤ LIMIT → given + LIMIT < now → ⊥
not_more given now n counted few more = omega (arith, counted.most, few, more)

pub neither_more : {name : List ℕ} {before now : Seen} {source requests : List ℕ} → BothRead name before now source requests →
    (before.shelf.given + LIMIT < now.shelf.given) ⊎ (before.input.given + LIMIT < now.input.given) → ⊥
neither_more {before} {now} {source} both (inl more) =
    not_more before.shelf.given now.shelf.given (length source) both.shelf.given both.shelf.within more
neither_more {before} {now} {requests} both (inr more) =
    not_more before.input.given now.input.given (length requests) both.input.given both.input.within more

pub neither_long : (source requests : List ℕ) → length source ≤ LIMIT → length requests ≤ LIMIT
    → (LIMIT < length source) ⊎ (LIMIT < length requests) → ⊥
neither_long source requests short few (inl long) = omega (arith, short, long)
neither_long source requests short few (inr long) = omega (arith, few, long)

-- where both texts are told, what holds of each text that is left to read
pub if_told : (o p : Option (List ℕ)) (P : List ℕ → List ℕ → Type 0) → ((s r : List ℕ) → p ≡ Some r → P s r) → IfSome o (λ s. IfSome p (P s))
if_told None p P h = tt
if_told (Some s) None P h = tt
if_told (Some s) (Some r) P h = h s r refl

-- a text that was too long is not a short one
pub too_short : {before now : InputSeen} → NotRead before now read.TooLong → (text : List ℕ) → before.left ≡ Some text → length text ≤ LIMIT → ⊥
too_short second text there short =
    let long : IfSome (Some text) (λ left. LIMIT < length left) =
    subst (λ o. IfSome o (λ left. LIMIT < length left)) there (second.long_text refl) in omega (arith, long, short)

-- where the input failed, neither text gave too much
pub no_more_failed : (name : List ℕ) (before now : Seen) (source : List ℕ) → Read (before.shelf.told name) now.shelf.left before.shelf.given now.shelf.given source → NotRead before.input now.input read.Failed
    → (before.shelf.given + LIMIT < now.shelf.given) ⊎ (before.input.given + LIMIT < now.input.given) → ⊥
no_more_failed name before now source first second (inl more) =
    not_more before.shelf.given now.shelf.given (length source) first.given first.within more
no_more_failed name before now source first second (inr more) = omega (arith, second.failed_given refl, more)

pub read_not_ended : IsWritten status.Read → ⊥
read_not_ended (inl e) = absurd (cc)
read_not_ended (inr (inl e)) = absurd (cc)
read_not_ended (inr (inr e)) = absurd (cc)

pub too_long_not_ended : IsWritten status.TooLong → ⊥
too_long_not_ended (inl e) = absurd (cc)
too_long_not_ended (inr (inl e)) = absurd (cc)
too_long_not_ended (inr (inr e)) = absurd (cc)

pub no_memory_not_ended : IsWritten status.NoMemory → ⊥
no_memory_not_ended (inl e) = absurd (cc)
no_memory_not_ended (inr (inl e)) = absurd (cc)
no_memory_not_ended (inr (inr e)) = absurd (cc)
