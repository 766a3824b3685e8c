-- Agreement from an entry on, entry by entry.
use Rattle.std.proofs.{Common.{◌≡◌, ◌↔◌, ℕ, zero, suc, ◌-◌, ◌<◌, ◌≤◌, List, [], ◌∷◌, length, map, ℤ, ◌≤ℤ◌, ◌<ℤ◌, refl, sym, ap, ◌∙◌, subst, ⊎_elim, arith}, lemmas.Int.{ints, by_lt_z}, lemmas.Bool.{cases_lt}}
use Rattle.basics.specs.ComparisonLaws.{le_le, lt_le}
use Rattle.zone_spans.specs.Entries.{Entry}
use Rattle.tz_tzif.specs.FooterForce.{FooterZone, held_at}
use Rattle.tz_lookup.specs.{Sets.{shift_of, shifts_of}, Spans.{IsCut, TimesDontFall}, declared.set.FixedTimespanSet.{FixedTimespanSet}}
use Rattle.zone_tzif.{specs.Agreement.{cycle_end, time_of_entry, year_zero}, specs.Causes.{kind_in}, specs.Walked.{AgreesAt, IsWalked, Lasts, kind_from}, specs.declared.convert.Saves.TheVariants.{Any}, proofs.KindLemmas.{kind_cut}}
use Rattle.zone_tzif_core.specs.Zones.{KindValue}

pub length-shifts : (entries : List Entry) → length (map shift_of entries) ≡ length entries
length-shifts [] = refl
length-shifts (e ∷ es) = ap suc (length-shifts es)

module _ (set : FixedTimespanSet) (times : TimesDontFall (shifts_of set)) where
  cut : (i : ℕ) (s : ℤ) → i < length (shifts_of set) → time_of_entry set i ≤ℤ s → Lasts set i s → IsCut (shifts_of set) (suc i) s
  cut i s inside begun lasts = record {
    within = omega arith;
    before = λ j l. le_le _ _ _ (times j i (omega arith) inside) begun;
    after = λ j l m. lt_le _ _ _ (lasts.next (omega arith)) (times (suc i) j l m);
  }

  -- what an entry puts in force
  kind_is : (i : ℕ) (s : ℤ) → i < length (shifts_of set) → time_of_entry set i ≤ℤ s → Lasts set i s
      → kind_from set s ≡ kind_in Any set (suc i)
  kind_is i s inside begun lasts = kind_cut set (suc i) s (cut i s inside begun lasts)

  -- of the entry i a start, an end and a kind were found
  module _ (zone : FooterZone) (i : ℕ) (low high : ℤ) (kind : KindValue) (inside : i < length (shifts_of set)) (first : year_zero ≤ℤ low)
      (at : low ≡ time_of_entry set i) (is : kind ≡ kind_in Any set (suc i)) (ends : (s : ℤ) → s <ℤ high ↔ Lasts set i s) where
    here : ((s : ℤ) → low ≤ℤ s → s <ℤ high → held_at zone s ≡ kind) → (s : ℤ) → time_of_entry set i ≤ℤ s → Lasts set i s
        → held_at zone s ≡ kind_from set s
    here alike s begun lasts =
        alike s (omega (arith, ints, at, begun)) ((ends s).1 lasts) ∙ is ∙ sym (kind_is i s inside begun lasts)

    pub agrees_at : ((s : ℤ) → low ≤ℤ s → s <ℤ high → held_at zone s ≡ kind)
        → (suc i < length (shifts_of set) → AgreesAt zone set (suc i)) → AgreesAt zone set i
    agrees_at alike later = record {
      first = omega (arith, ints, first, at);
      from = record { alike = λ s begun before. by_cases s begun before };
    }
      where
        by_cases : (s : ℤ) → time_of_entry set i ≤ℤ s → s <ℤ cycle_end → held_at zone s ≡ kind_from set s
        by_cases s begun before =
            by_lt_z {P = held_at zone s ≡ kind_from set s} s (time_of_entry set (suc i))
            (λ lt. here alike s begun (record { next = λ more. lt; cycle = before }))
            (λ le. ⊎_elim {C = held_at zone s ≡ kind_from set s}
            (λ more. (later more).from.alike s le before)
            (λ last. here alike s begun (record { next = λ more. absurd (omega (arith, more, last)); cycle = before }))
            (cases_lt (suc i) (length (shifts_of set))))

    pub agreed : AgreesAt zone set i → (s : ℤ) → low ≤ℤ s → s <ℤ high → held_at zone s ≡ kind
    agreed agrees s begun before =
        let lasts = (ends s).0 before in
        let from : time_of_entry set i ≤ℤ s = omega (arith, ints, at, begun) in
        agrees.from.alike s from lasts.cycle ∙ kind_is i s inside from lasts ∙ sym is

    pub agrees_briefly : high ≤ℤ low → (suc i < length (shifts_of set) → AgreesAt zone set (suc i)) → AgreesAt zone set i
    agrees_briefly none later = agrees_at (λ s begun before. absurd (omega (arith, ints, none, begun, before))) later

  -- a footer that agrees from an entry on agrees from each later one
  pub from_later : (zone : FooterZone) (i j : ℕ) → i ≤ j → j < length (shifts_of set) → AgreesAt zone set i → AgreesAt zone set j
  from_later zone i j order inside agrees =
      let rise = times i j order inside in
      record {
        first = le_le _ _ _ agrees.first rise;
        from = record { alike = λ s begun before. agrees.from.alike s (le_le _ _ _ rise begun) before };
      }

  -- from no entry before those that were walked
  pub none_before : (zone : FooterZone) (n : ℕ) → IsWalked zone set n → (i : ℕ) → i < n → AgreesAt zone set i → ⊥
  none_before zone zero walked i l agrees = absurd (omega arith)
  none_before zone (suc n) walked i l agrees =
      walked.stops n refl (from_later zone i n (omega arith) (omega (arith, walked.within)) agrees)

-- one more entry in front
pub one_more : (zone : FooterZone) (set : FixedTimespanSet) (n : ℕ) → 0 < n → AgreesAt zone set (n - 1)
    → ((i : ℕ) → n ≤ i → i < length (shifts_of set) → AgreesAt zone set i)
    → (i : ℕ) → n - 1 ≤ i → i < length (shifts_of set) → AgreesAt zone set i
one_more zone set n some here later i from inside = ⊎_elim {C = AgreesAt zone set i}
    (λ before. let e : n - 1 ≡ i = omega arith in subst (AgreesAt zone set) e here)
    (λ past. later i past inside)
    (cases_lt i n)
