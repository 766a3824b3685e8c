-- The totals at the instants of a local time, where two functions agree on all instants near it.
use Rattle.std.{proofs.Common.{◌≡◌, ℕ, zero, suc, Bool, true, false, cond, List, [], ◌∷◌, length, map, ℤ, pos, neg_ℤ, ◌-ℤ◌, ◌≤ℤ◌, refl, sym, ap, ◌∙◌, arith}, specs.List.{filter}, specs.Ordering.{int_eq}, proofs.lemmas.List.{length-map}}
use Rattle.basics.specs.{ComparisonLaws.{eq_from_pass}, SignedLaws.{one_sided, signed}}
use Rattle.civil_base.specs.{DateTimes.{at_offset, offset_of}, Instants.{instant_at}, RangeLaws.{offset_by_size}, Ranges.{IsOffset, greatest_offset}, declared.offset_date_time.OffsetDateTime.{OffsetDateTime}}
use Rattle.zone_spans.specs.Schedules.{down_from, instants, offset_count, offsets}
use Rattle.tz_lookup.specs.{InForce.{all_in_force, in_force, shown_of, totals_at}, InForceLaws.{shown_at_offset}}

-- an offset is that of the instant that it gives
abbrev reads : (ℤ → ℤ) → ℤ → ℤ → Bool
reads total x o = int_eq (total (instant_at x o)) o

-- both read each offset alike
abbrev pub AgreeNear : (ℤ → ℤ) → ℤ → (ℤ → ℤ) → ℤ → Type 0
AgreeNear total x other y = (o : ℤ) → IsOffset o → total (instant_at x o) ≡ other (instant_at y o)

is_one : (o : ℤ) (n : ℕ) → o ≤ℤ pos 93599 → neg_ℤ (pos 93600) ≤ℤ (o -ℤ pos (suc n)) → IsOffset o
is_one o n high low = offset_by_size o (omega (arith, signed, one_sided o, high, low))

same_kept : (total : ℤ → ℤ) (x : ℤ) (other : ℤ → ℤ) (y o : ℤ) (n : ℕ) → AgreeNear total x other y → o ≤ℤ pos 93599
    → neg_ℤ (pos 93600) ≤ℤ (o -ℤ pos n) → filter (reads total x) (down_from o n) ≡ filter (reads other y) (down_from o n)
same_kept total x other y o zero agree high low = refl
same_kept total x other y o (suc n) agree high low =
    let here : int_eq (total (instant_at x o)) o ≡ int_eq (other (instant_at y o)) o =
    ap (λ z. int_eq z o) (agree o (is_one o n high low)) in
    let rest = same_kept total x other y (o -ℤ pos 1) n agree (omega (arith, signed, high)) (omega (arith, signed, low)) in
    (λ i. cond (here i) (o ∷ rest i) (rest i))

pub same_offsets : (total : ℤ → ℤ) (x : ℤ) (other : ℤ → ℤ) (y : ℤ) → AgreeNear total x other y
    → filter (reads total x) offsets ≡ filter (reads other y) offsets
unfolding offsets offset_count
same_offsets total x other y agree =
    same_kept total x other y (pos greatest_offset) 187199 agree (omega (arith, signed)) (omega (arith, signed))

-- ---- the totals are the offsets that are read
back_to_offset : (total : ℤ → ℤ) (x : ℤ) (os : List ℤ)
    → map total (map (instant_at x) (filter (reads total x) os)) ≡ filter (reads total x) os
back_to_offset total x [] = refl
back_to_offset total x (o ∷ os) =
    elim (reads total x o) as (λ b. reads total x o ≡ b → map total (map (instant_at x) (cond b (o ∷ filter (reads total x) os) (filter (reads total x) os)))
    ≡ cond b (o ∷ filter (reads total x) os) (filter (reads total x) os)) [
      | true ↦ λ e. let here = eq_from_pass (total (instant_at x o)) o e in let rest = back_to_offset total x os in (λ i. here i ∷ rest i)
      | false ↦ λ e. back_to_offset total x os
    ] refl

totals_are : (total : ℤ → ℤ) (x : ℤ) → totals_at total x ≡ filter (reads total x) offsets
unfolding totals_at instants
totals_are total x = back_to_offset total x offsets

pub same_totals : (total : ℤ → ℤ) (x : ℤ) (other : ℤ → ℤ) (y : ℤ) → AgreeNear total x other y → totals_at total x ≡ totals_at other y
same_totals total x other y agree = totals_are total x ∙ same_offsets total x other y agree ∙ sym (totals_are other y)

count_is : (total : ℤ → ℤ) (x : ℤ) → length (totals_at total x) ≡ length (instants total x)
unfolding totals_at
count_is total x = length-map (instants total x) total

pub same_count : (total : ℤ → ℤ) (x : ℤ) (other : ℤ → ℤ) (y : ℤ) → AgreeNear total x other y
    → length (instants total x) ≡ length (instants other y)
same_count total x other y agree = sym (count_is total x) ∙ ap length (same_totals total x other y agree) ∙ count_is other y

-- ---- date-times at these totals
abbrev at_instant : ℤ → ℤ → ℤ × ℤ
at_instant x o = (instant_at x o, o)

back_to_instant : (total : ℤ → ℤ) (x : ℤ) (os : List ℤ)
    → map (in_force total) (map (instant_at x) (filter (reads total x) os)) ≡ map (at_instant x) (filter (reads total x) os)
back_to_instant total x [] = refl
back_to_instant total x (o ∷ os) =
    elim (reads total x o) as (λ b. reads total x o ≡ b → map (in_force total) (map (instant_at x) (cond b (o ∷ filter (reads total x) os) (filter (reads total x) os)))
    ≡ map (at_instant x) (cond b (o ∷ filter (reads total x) os) (filter (reads total x) os))) [
      | true ↦ λ e. let here = eq_from_pass (total (instant_at x o)) o e in let rest = back_to_instant total x os in
          (λ i. (instant_at x o, here i) ∷ rest i)
      | false ↦ λ e. back_to_instant total x os
    ] refl

shown_by_totals : (total : ℤ → ℤ) (x : ℤ) → all_in_force total x ≡ map (at_instant x) (totals_at total x)
unfolding all_in_force instants
shown_by_totals total x = back_to_instant total x offsets ∙ ap (map (at_instant x)) (sym (totals_are total x))

-- all date-times of a local time that both read alike
pub same_in_force : (total : ℤ → ℤ) (other : ℤ → ℤ) (x : ℤ) → AgreeNear total x other x → all_in_force total x ≡ all_in_force other x
same_in_force total other x agree =
    shown_by_totals total x ∙ ap (map (at_instant x)) (same_totals total x other x agree) ∙ sym (shown_by_totals other x)

offsets_shown : (dates : List OffsetDateTime) → map offset_of dates ≡ map (λ (shown : ℤ × ℤ). shown.1) (map shown_of dates)
unfolding shown_of
offsets_shown [] = refl
offsets_shown (date ∷ dates) = ap (λ l. offset_of date ∷ l) (offsets_shown dates)

offsets_of : (x : ℤ) (os : List ℤ) → map (λ (shown : ℤ × ℤ). shown.1) (map (at_instant x) os) ≡ os
offsets_of x [] = refl
offsets_of x (o ∷ os) = ap (λ l. o ∷ l) (offsets_of x os)

moved_dates : (x : ℤ) (dates : List OffsetDateTime)
    → map shown_of (map (λ (date : OffsetDateTime). at_offset x (offset_of date)) dates) ≡ map (at_instant x) (map offset_of dates)
moved_dates x [] = refl
moved_dates x (date ∷ dates) = (λ i. shown_at_offset x (offset_of date) i ∷ moved_dates x dates i)

-- the local time at the offsets of all date-times of another that is read alike
pub all_moved : (total : ℤ → ℤ) (x : ℤ) (other : ℤ → ℤ) (y : ℤ) (dates : List OffsetDateTime) → AgreeNear total x other y
    → map shown_of dates ≡ all_in_force other y
    → map shown_of (map (λ (date : OffsetDateTime). at_offset x (offset_of date)) dates) ≡ all_in_force total x
all_moved total x other y dates agree all =
    moved_dates x dates
    ∙ ap (map (at_instant x)) (offsets_shown dates ∙ ap (map (λ (shown : ℤ × ℤ). shown.1)) (all ∙ shown_by_totals other y)
    ∙ offsets_of y (totals_at other y) ∙ sym (same_totals total x other y agree))
    ∙ sym (shown_by_totals total x)
