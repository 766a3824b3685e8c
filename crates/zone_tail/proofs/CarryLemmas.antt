-- What a chosen candidate's text is read as, and that its zone gives the set's offset.
use Rattle.std.{proofs.Common.{◌≡◌, false, None, ℤ, pos, refl, arith, ℕ, zero, suc, true, cond, List, [], ◌∷◌, Option, Some, neg_ℤ, ◌<ℤ◌, sym, ◌∙◌, subst}, specs.Ordering.{int_eq}, proofs.lemmas.Int.{ints}, proofs.lemmas.Bool.{and_from}}
use Rattle.tz_posix.specs.{Days.{day_refusal}, InForce.{is_year, rule_refusal, year_at}, PosixZones.{Given, Gives, posix_refusal}, Ranges.{first_some}, Spells.{Spells}, declared.error.Error.TheVariants.{ComponentRange}}
use Rattle.zone_tail.specs.{Rules.{IsNearYear, date_of, IsReach, rule_total}, declared.rule.Change.{Change}, Agreement.{Agrees}, Candidates.{candidate_total, IsAllowed, IsLast, IsSoundCandidate}, Carried.{CarriesOn, IsCovered, IsFrom}}
use Rattle.zone_tail.specs.{Ready.{CanBeWritten, IsNamedBy}, Settled.{IsPastChanges, IsSettled, Settles}, Tails.{beginning, end_of_last_year, is_ending_early}, Texts.{text_of}, Totals.{HasBegun}, Values.{value_of, zone_of}}
use Rattle.zone_tail.specs.declared.candidate.Candidate.{Candidate, TheVariants.{Fixed, Ruled}}
use Rattle.zone_tail.proofs.{ReadLemmas.{text_spelled, value_in_range, value_stands}, YearLemmas.{year_near}}
use Rattle.basics.specs.ComparisonLaws.{le_pass}
use Rattle.civil_base.specs.Instants.{seconds_of}
use Rattle.tz_lookup.specs.{Sets.{schedule_of, shifts_of}, Spans.{Shift}, declared.set.FixedTimespanSet.{FixedTimespanSet}}

not_last : (y : ℤ) → IsNearYear y → int_eq y (pos 9999) ≡ false
not_last y near = grind (arith, ints, near.last)

-- only the last year that dates have lacks one
never_refused : (change : Change) (y : ℤ) → IsNearYear y → day_refusal (date_of change) y ≡ None
unfolding day_refusal
never_refused change y near = rw (not_last y near) refl

-- there is a rule
abbrev IsRuled : Candidate → Type 0
IsRuled (Fixed total) = ⊥
IsRuled (Ruled rule) = Unit {0}

begun_at : (shifts : List Shift) (span : ℕ) (s : ℤ) → IsFrom (beginning shifts span) s → HasBegun shifts span s
begun_at shifts zero s h = tt
begun_at shifts (suc i) s h = h

near_is_year : (y : ℤ) → IsNearYear y → is_year y ≡ true
near_is_year y near =
    and_from _ _ (le_pass (neg_ℤ (pos 9999)) y (omega (arith, ints, near.first))) (le_pass y (pos 9999) (omega (arith, ints, near.last)))

total_is : (standard saving : List ℕ) (c : Candidate) (t : ℤ) (given : Given) → Gives (zone_of standard saving c) t given → given.total ≡ candidate_total c t
unfolding zone_of candidate_total rule_total
total_is standard saving (Fixed total) t given gives = gives.0.0
total_is standard saving (Ruled q) t given gives = gives.total

module _ (set : FixedTimespanSet) (standard saving : List ℕ) where
  reach : (s last : ℤ) (c : Candidate) (span : ℕ) → IsAllowed c (schedule_of set) span → HasBegun (shifts_of set) span s → s <ℤ last → IsLast c last
      → IsRuled c → IsReach s
  reach s last (Fixed total) span allowed begun before end ruled = absurd ruled
  reach s last (Ruled q) zero allowed begun before end ruled = absurd allowed
  reach s last (Ruled q) (suc i) allowed begun before end ruled =
      record { least = omega (arith, ints, allowed.1, begun); greatest = omega (arith, ints, before, end) }

  accepted : (c : Candidate) (t : ℤ) → IsSoundCandidate c → (IsRuled c → IsReach (seconds_of t)) → posix_refusal (zone_of standard saving c) t ≡ None
  unfolding zone_of rule_refusal
  accepted (Fixed total) t sound within = refl
  accepted (Ruled q) t sound within =
      let near = year_near q.standard (seconds_of t) sound.standard (within tt) in
      let y = year_at q.standard (seconds_of t) in
      (λ i. cond (near_is_year y near i) (first_some (never_refused q.start y near i ∷ never_refused q.end y near i ∷ [])) (Some ComponentRange))

  settled : (c : Candidate) → Settles set c → is_ending_early set ≡ false → (s : ℤ) → IsPastChanges set s → IsSettled (zone_of standard saving c) s
  unfolding zone_of
  settled (Fixed total) settles early s past = tt
  settled (Ruled q) settles early s past = settles early s past

  -- the text of a candidate that agrees from a span on
  pub carries_on : (c : Candidate) (span : ℕ) (from : Option ℤ) (text : List ℕ) → IsNamedBy standard saving c → CanBeWritten c → IsSoundCandidate c
      → IsLast c (end_of_last_year set) → Settles set c → IsAllowed c (schedule_of set) span → Agrees c (schedule_of set) (end_of_last_year set) span
      → from ≡ beginning (shifts_of set) span → text ≡ text_of standard saving c → CarriesOn set from text
  carries_on c span from text names written sound end settles allowed agrees begins is = record {
    value = value_of standard saving c;
    zone = zone_of standard saving c;
    spelled = subst (λ t. Spells t (value_of standard saving c)) (sym is) (text_spelled standard saving c names written sound);
    in_range = value_in_range standard saving c written sound;
    stands_for = value_stands standard saving c;
    accepts = λ t covered. accepted c t sound (reach (seconds_of t) (end_of_last_year set) c span allowed (begun t covered) covered.not_over end);
    settled = settled c settles;
    agrees = λ t given covered gives. total_is standard saving c t given gives ∙ agrees.alike t (begun t covered) covered.not_over;
  }
    where
      begun : (t : ℤ) → IsCovered set from t → HasBegun (shifts_of set) span (seconds_of t)
      begun t covered = begun_at (shifts_of set) span (seconds_of t) (subst (λ f. IsFrom f (seconds_of t)) begins covered.begun)
