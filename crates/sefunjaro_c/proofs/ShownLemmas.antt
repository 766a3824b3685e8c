-- What is seen of zones, and instants at the offset in force.
use Rattle.std.{proofs.Common.{◌≡◌, ℕ, Bool, false, List, ℤ, refl, sym, ap, subst, arith}, specs.Prelude.{Option, Some, None}, proofs.lemmas.Int.{ints}}
use Rattle.civil_base.specs.{DateTimes.{instant, local_of, offset_of}, Instants.{instant_at, local_at}, declared.offset_date_time.OffsetDateTime.{OffsetDateTime}, Ranges.{is_in_years}}
use Rattle.tz_lookup.specs.InForce.{in_force, shown_of}
use Rattle.sefunjaro.specs.{Answered.{IsShown}, Answers.{IsAnswer}, Zones.{given_in, total_in}, declared.answer.Answer.{Answer}, declared.zone.OpenZone.{OpenZone}}
use Rattle.sefunjaro_c.{specs.{Held.{OfZone, Seen}, declared.opened.Opened.{Opened}, Answers.{is_shown, IsShownAs, Where}, Lists.{OfPlace}}, proofs.AskedLemmas.{of_zone}}

-- what follows from what is seen, whatever zone it is
pub seen_map : (zone : OpenZone) (P Q : (ℤ → ℤ) → (ℤ → List ℕ → Bool → Type 0) → Type 0)
    → ((total : ℤ → ℤ) (gives : ℤ → List ℕ → Bool → Type 0) → P total gives → Q total gives) → Seen zone P → Seen zone Q
seen_map zone P Q f h = f (total_in zone) (given_in zone) h

local_from : (x o t p : ℤ) → instant_at x o ≡ t → o ≡ p → x ≡ local_at t p
local_from x o t p e f = omega (arith, ints, e, f)

shown_as : (total : ℤ → ℤ) (t : ℤ) (value : OffsetDateTime) → shown_of value ≡ in_force total t → IsShownAs total t value
unfolding shown_of instant
shown_as total t value shown =
    let at = ap (λ p. p.0) shown in let offset = ap (λ p. p.1) shown in record {
      instant = at;
      offset = offset;
      local = local_from (local_of value) (offset_of value) t (total t) at offset;
    }

pub where_shown : (total : ℤ → ℤ) (t : ℤ) (value : OffsetDateTime) (kept P : Type 0) → IsShown total t (Some value)
    → (IsShownAs total t value → P) → Where (is_shown total t) 0 kept P
unfolding is_shown
where_shown total t value kept P h f = subst (λ b. Where b 0 kept P) h.years (refl, f (shown_as total t value h.shown))

pub where_none : (total : ℤ → ℤ) (t : ℤ) (kept P : Type 0) → IsShown total t None → kept → Where (is_shown total t) 10 kept P
unfolding is_shown
where_none total t kept P h k = subst (λ b. Where b 10 kept P) h.years (refl, k)

pub where_answered : (total : ℤ → ℤ) (gives : ℤ → List ℕ → Bool → Type 0) (t : ℤ) (answer : Answer) (old new : List ℕ) (kept : Type 0)
    → IsAnswer total gives t answer old new → Where (is_shown total t) 0 kept (IsAnswer total gives t answer old new)
unfolding is_shown
where_answered total gives t answer old new kept h = subst (λ b. Where b 0 kept (IsAnswer total gives t answer old new)) (sym h.years) (refl, h)

pub where_unanswered : (total : ℤ → ℤ) (t : ℤ) (kept P : Type 0) → is_in_years (local_at t (total t)) ≡ false → kept → Where (is_shown total t) 10 kept P
unfolding is_shown
where_unanswered total t kept P h k = subst (λ b. Where b 10 kept P) (sym h) (refl, k)

-- what a call tells of the zone that is held, where a list is told by its places
pub told_places : (o p : Opened) (read zone : OpenZone) (find : (ℤ → ℤ) → Option ℕ) (status place far : ℕ) (kept : Type 0) (due found : (ℤ → ℤ) → Type 0)
    → o ≡ p → (Seen zone (λ total _. OfPlace (find total) status place far kept (due total))
    → OfZone p status (kept × (far ≡ place)) (λ held. Seen held (λ total _. OfPlace (find total) status place far kept (due total))))
    → ((total : ℤ → ℤ) → found total → OfPlace (find total) status place far kept (due total)) → read ≡ zone → Seen read (λ total _. found total)
    → OfZone o status (kept × (far ≡ place)) (λ held. Seen held (λ total _. OfPlace (find total) status place far kept (due total)))
told_places o p read zone find status place far kept due found held holds tells is seen =
    of_zone o p status (kept × (far ≡ place)) (λ z. Seen z (λ total _. OfPlace (find total) status place far kept (due total))) held
    (holds (seen_map zone (λ total _. found total) _ (λ total _. tells total) (subst (λ z. Seen z (λ total _. found total)) is seen)))
