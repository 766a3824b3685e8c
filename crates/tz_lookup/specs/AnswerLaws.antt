-- What an answer says of the instants of a local time.
use Rattle.std.{proofs.Common.{◌≡◌, ◌≤◌, List, [], ◌∷◌, length, map, take, ℤ, refl, sym, ap, ◌∙◌, subst, arith}, specs.Prelude.{Contains}, proofs.lemmas.List.{take-map, take_all, length-map}}
use Rattle.civil_base.specs.{DateTimes.{instant}, Instants.{instant_at}, Ranges.{IsOffset}, declared.offset_date_time.OffsetDateTime.{OffsetDateTime}}
use Rattle.zone_spans.specs.Schedules.{instants}
use Rattle.tz_lookup.specs.{InForce.{in_force, all_in_force, shown_of, totals_at, AreInstants}, InstantLaws.{from_reading, instants_are}, RisingLaws.{contains_head, contains_more}}

back_all : (total : ℤ → ℤ) (x : ℤ) (ts : List ℤ) → ((t : ℤ) → Contains ts t → t ≡ instant_at x (total t))
    → map (instant_at x) (map total ts) ≡ ts
back_all total x [] h = refl
back_all total x (t ∷ ts) h =
    let here = h t (contains_head t ts) in
    let rest = back_all total x ts (λ u c. h u (contains_more t ts u c)) in
    (λ i. sym here i ∷ rest i)

-- a local time less the totals at its instants gives the instants
instants_from_totals : (total : ℤ → ℤ) (x : ℤ) → ((t : ℤ) → IsOffset (total t)) → map (instant_at x) (totals_at total x) ≡ instants total x
unfolding totals_at
instants_from_totals total x range =
    back_all total x (instants total x) (λ t c. from_reading x t (total t) (((instants_are total x range).exact t).0 c))

-- where a local time has no more than two instants, the first two totals at them give all of them
pub instants_of_offsets : (total : ℤ → ℤ) (x : ℤ) (os : List ℤ) → ((t : ℤ) → IsOffset (total t)) → length (instants total x) ≤ 2
    → os ≡ take 2 (totals_at total x) → AreInstants total x (map (instant_at x) os)
instants_of_offsets total x os range two e =
    subst (AreInstants total x)
    (sym (ap (map (instant_at x)) e ∙ sym (take-map (instant_at x) 2 (totals_at total x)) ∙ ap (take 2) (instants_from_totals total x range)
    ∙ take_all 2 (instants total x) two))
    (instants_are total x range)

instants_in : (total : ℤ → ℤ) (ts : List ℤ) → map (λ (shown : ℤ × ℤ). shown.0) (map (in_force total) ts) ≡ ts
instants_in total [] = refl
instants_in total (t ∷ ts) = ap (λ l. t ∷ l) (instants_in total ts)

instants_shown : (dates : List OffsetDateTime) → map instant dates ≡ map (λ (shown : ℤ × ℤ). shown.0) (map shown_of dates)
unfolding shown_of
instants_shown [] = refl
instants_shown (date ∷ dates) = ap (λ l. instant date ∷ l) (instants_shown dates)

-- date-times that show all instants of a local time, each with the total in force, are at those instants
pub instants_of_dates : (total : ℤ → ℤ) (x : ℤ) (dates : List OffsetDateTime) → ((t : ℤ) → IsOffset (total t))
    → map shown_of dates ≡ all_in_force total x → AreInstants total x (map instant dates)
unfolding all_in_force
instants_of_dates total x dates range e =
    subst (AreInstants total x)
    (sym (instants_shown dates ∙ ap (map (λ (shown : ℤ × ℤ). shown.0)) e ∙ instants_in total (instants total x)))
    (instants_are total x range)

-- where there are no more than two, the first two are all
pub all_of_two : (total : ℤ → ℤ) (x : ℤ) (shown : List (ℤ × ℤ)) → length (instants total x) ≤ 2
    → shown ≡ take 2 (all_in_force total x) → shown ≡ all_in_force total x
unfolding all_in_force
all_of_two total x shown two e =
    e ∙ take_all 2 (map (in_force total) (instants total x)) (omega (arith, two, length-map (instants total x) (in_force total)))

-- and so are those that show the first two, where there are no more
pub instants_of_two : (total : ℤ → ℤ) (x : ℤ) (dates : List OffsetDateTime) → ((t : ℤ) → IsOffset (total t))
    → length (instants total x) ≤ 2 → map shown_of dates ≡ take 2 (all_in_force total x) → AreInstants total x (map instant dates)
instants_of_two total x dates range two e = instants_of_dates total x dates range (all_of_two total x (map shown_of dates) two e)
