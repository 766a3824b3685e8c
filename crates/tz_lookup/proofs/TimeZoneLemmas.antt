-- What a zone's answers say of instants.
use Rattle.std.{proofs.Common.{◌≡◌, zero, suc, ◌≤◌, List, [], ◌∷◌, length, map, take, ℤ, pos, ◌+ℤ◌, ◌*ℤ◌, refl, sym, ap, ◌∙◌, subst, arith}, specs.Prelude.{Contains}, proofs.lemmas.List.{take-map}, proofs.lemmas.Int.{ints}}
use Rattle.civil_base.specs.{DateTimes.{at_offset}, Ranges.{IsOffset}, Instants.{instant_at}, declared.offset_date_time.OffsetDateTime.{OffsetDateTime}}
use Rattle.zone_spans.specs.Schedules.{instants}
use Rattle.tz_lookup.specs.{Answers.{AreMapped, listed}, InForce.{in_force, all_in_force, totals_at, shown_of}, InForceLaws.{shown_at_offset}, RisingLaws.{contains_head, contains_more}, InstantLaws.{from_reading, instants_are, instants_one}, declared.time_zone.OffsetResult.{TheVariants.{Some, Ambiguous, None}, OffsetResult}}

-- one total at all times
reads_fixed : (x t o : ℤ) → instant_at x o ≡ t → (t +ℤ pos 1000000000 *ℤ o) ≡ x
reads_fixed x t o e = omega (arith, ints, e)

pub fixed_instants : (o x : ℤ) → IsOffset o → instants (λ _. o) x ≡ instant_at x o ∷ []
fixed_instants o x h = instants_one (λ _. o) x (instant_at x o ∷ []) (λ _. h) (record {
  rising = λ i j d l m. absurd (omega (arith, l, m));
  exact =
      λ t. (
        (λ c. reads_fixed x t o (only t c)),
        (λ r. subst (λ s. Contains (instant_at x o ∷ []) s) (sym (from_reading x t o r)) (contains_head (instant_at x o) [])),
      );
})
  where
    only : (t : ℤ) → Contains (instant_at x o ∷ []) t → instant_at x o ≡ t
    only t (zero, l, e) = e
    only t (suc k, l, e) = absurd (omega (arith, l))

pub fixed_totals : (o x : ℤ) → IsOffset o → o ∷ [] ≡ take 2 (totals_at (λ _. o) x)
unfolding totals_at
fixed_totals o x h = sym (ap (λ ts. take 2 (map (λ (t : ℤ). o) ts)) (fixed_instants o x h))

pub fixed_two : (o x : ℤ) → IsOffset o → length (instants (λ _. o) x) ≤ 2
fixed_two o x h = let e = ap length (fixed_instants o x h) in omega (arith, e)

pairs_of : (total : ℤ → ℤ) (x : ℤ) (ts : List ℤ) → ((t : ℤ) → Contains ts t → t ≡ instant_at x (total t)) →
    map (λ o. (instant_at x o, o)) (map total ts) ≡ map (in_force total) ts
pairs_of total x [] h = refl
pairs_of total x (t ∷ ts) h =
    let here = h t (contains_head t ts) in
    let rest = pairs_of total x ts (λ u c. h u (contains_more t ts u c)) in
    (λ i. (sym here i, total t) ∷ rest i)

-- the instants of a local time beside the totals in force
pub in_force_from_totals : (total : ℤ → ℤ) (x : ℤ) → ((t : ℤ) → IsOffset (total t))
    → map (λ o. (instant_at x o, o)) (totals_at total x) ≡ all_in_force total x
unfolding totals_at all_in_force
in_force_from_totals total x range =
    pairs_of total x (instants total x) (λ t c. from_reading x t (total t) (((instants_are total x range).exact t).0 c))

pub shown_assumed : (total : ℤ → ℤ) (x : ℤ) (os : List ℤ) → ((t : ℤ) → IsOffset (total t)) → os ≡ take 2 (totals_at total x) →
    map (λ o. (instant_at x o, o)) os ≡ take 2 (all_in_force total x)
shown_assumed total x os range e =
    ap (map (λ o. (instant_at x o, o))) e ∙ sym (take-map (λ o. (instant_at x o, o)) 2 (totals_at total x))
    ∙ ap (take 2) (in_force_from_totals total x range)

-- date-times of a local time at each of the offsets show it at their totals
pub shown_mapped : {O : Type 0} (total_of : O → ℤ) (x : ℤ) (P : O → OffsetDateTime → Type 0) (offsets : OffsetResult O)
    (dates : OffsetResult OffsetDateTime) → AreMapped P offsets dates → ((o : O) (date : OffsetDateTime) → P o date → date ≡ at_offset x (total_of o))
    → map shown_of (listed dates) ≡ map (λ o. (instant_at x o, o)) (map total_of (listed offsets))
shown_mapped total_of x P (Some o) (Some d) h each = λ i. (ap shown_of (each o d h) ∙ shown_at_offset x (total_of o)) i ∷ []
shown_mapped total_of x P (Ambiguous o p) (Ambiguous d e) h each =
    λ i. (ap shown_of (each o d h.0) ∙ shown_at_offset x (total_of o)) i ∷ (ap shown_of (each p e h.1) ∙ shown_at_offset x (total_of p)) i ∷ []
shown_mapped total_of x P None None h each = refl
shown_mapped total_of x P (Some o) (Ambiguous d e) h each = absurd h
shown_mapped total_of x P (Some o) None h each = absurd h
shown_mapped total_of x P (Ambiguous o p) (Some d) h each = absurd h
shown_mapped total_of x P (Ambiguous o p) None h each = absurd h
shown_mapped total_of x P None (Some d) h each = absurd h
shown_mapped total_of x P None (Ambiguous d e) h each = absurd h
