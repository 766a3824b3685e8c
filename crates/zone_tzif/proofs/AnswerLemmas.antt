-- Where a footer that was walked begins to say what a set shows for ever.
use Rattle.std.proofs.{Common.{◌≡◌, ℕ, zero, suc, ◌<◌, ◌≤◌, length, Some, None, ℤ, pos, ◌-ℤ◌, ◌≤ℤ◌, ◌<ℤ◌, true, false, cond, refl, sym, ◌∙◌, ⊎_elim, arith}, lemmas.Int.{ints, by_lt_z}, lemmas.Bool.{cases_lt}}
use Rattle.basics.specs.ComparisonLaws.{le_le, lt_le}
use Rattle.civil_base.specs.Ranges.{IsOffset}
use Rattle.tz_tzif.specs.FooterForce.{FooterZone, fixed, yearly, held_at, is_fixed, standard_total}
use Rattle.tz_lookup.specs.{Sets.{shifts_of}, Spans.{IsCut, TimesDontFall}, declared.set.FixedTimespanSet.{FixedTimespanSet}}
use Rattle.zone_tzif.specs.{Agreement.{AgreesAlways, AgreesFirstFrom, AgreesForEver, AgreesNowhere, MayBegin, cycle_begin, cycle_end, time_of_entry}, Causes.{kind_in}, Walked.{Agrees, AgreesAt, IsWalked, kind_from}, declared.convert.Saves.TheVariants.{Any}, Tells.{Tells, TellsEntry}}
use Rattle.zone_tzif.specs.declared.agreeing.Agreement.{Agreement, TheVariants.{Nowhere, From, Always}}
use Rattle.zone_tzif.proofs.{KindLemmas.{kind_cut}, TailEverLemmas.{Repeats, for_ever, until_end}, EarliestLemmas.{earlier}, StepLemmas.{none_before}}

stands : (zone : FooterZone) → is_fixed zone ≡ true → (s t : ℤ) → held_at zone s ≡ held_at zone t
unfolding held_at
stands (fixed kind) is s t = refl
stands (yearly standard saving start end) is s t = absurd cc

-- a second before two others
earlier_second : (a b : ℤ) → (s : ℤ) × (s <ℤ a) × (s <ℤ b)
earlier_second a b = by_lt_z {P = (s : ℤ) × (s <ℤ a) × (s <ℤ b)} a b
    (λ lt. (a -ℤ pos 1, omega (arith, ints), omega (arith, ints)))
    (λ le. (b -ℤ pos 1, omega (arith, ints), omega (arith, ints)))

module _ (repeats : Repeats) (zone : FooterZone) (offset : IsOffset (standard_total zone)) (set : FixedTimespanSet)
    (times : TimesDontFall (shifts_of set)) (n : ℕ) (walked : IsWalked zone set n) where
  before_first : (s : ℤ) → (0 < length (shifts_of set) → s <ℤ time_of_entry set 0)
      → kind_from set s ≡ kind_in Any set 0
  before_first s early =
      let cut : IsCut (shifts_of set) 0 s = record {
        within = omega arith;
        before = λ j l. absurd (omega arith);
        after = λ j l m. lt_le _ _ _ (early (omega arith)) (times 0 j (omega arith) m);
      } in
      kind_cut set 0 s cut

  -- ---- always
  agrees_always : n ≡ 0 → is_fixed zone ≡ true → held_at zone (pos 0) ≡ kind_in Any set 0 → Agrees zone set None
  agrees_always none alone is = record { alike = λ s begun before. by_cases s before }
    where
      first : (s : ℤ) → (0 < length (shifts_of set) → s <ℤ time_of_entry set 0) → held_at zone s ≡ kind_from set s
      first s early = stands zone alone s (pos 0) ∙ is ∙ sym (before_first s early)

      by_cases : (s : ℤ) → s <ℤ cycle_end → held_at zone s ≡ kind_from set s
      by_cases s before =
          ⊎_elim {C = held_at zone s ≡ kind_from set s}
          (λ some. by_lt_z {P = held_at zone s ≡ kind_from set s} s (time_of_entry set 0)
          (λ lt. first s (λ _. lt))
          (λ le. (walked.later 0 (omega (arith, none)) some).from.alike s le before))
          (λ empty. first s (λ some. absurd (omega (arith, some, empty))))
          (cases_lt 0 (length (shifts_of set)))

  pub always : n ≡ 0 → is_fixed zone ≡ true → held_at zone (pos 0) ≡ kind_in Any set 0 → AgreesAlways zone set
  always none alone is = record {
    fixed = alone;
    early = λ i l. (walked.later i (omega (arith, none)) l).first;
    agrees = for_ever repeats zone offset set None (λ s h. tt) (agrees_always none alone is);
  }

  at_entry : (i : ℕ) → MayBegin set i → AgreesForEver zone set (Some (time_of_entry set i)) → AgreesAt zone set i
  at_entry i may agrees = record {
    first = may.first;
    from = until_end repeats zone offset set (Some (time_of_entry set i)) (λ s h. le_le _ _ _ may.last h) agrees;
  }

  module _ (all : AgreesAlways zone set) where
    until : Agrees zone set None
    until = until_end repeats zone offset set None (λ s h. tt) all.agrees

    each : (i : ℕ) → i < length (shifts_of set) → AgreesAt zone set i
    each i l = record { first = all.early i l; from = record { alike = λ s begun before. until.alike s tt before } }

    pub none_left : n ≡ 0
    none_left = by_number n walked
      where
        by_number : (m : ℕ) → IsWalked zone set m → m ≡ 0
        by_number zero w = refl
        by_number (suc m) w = absurd (w.stops m refl (each m (omega (arith, w.within))))

    pub first_at : held_at zone (pos 0) ≡ kind_in Any set 0
    first_at =
        let s = earlier_second (time_of_entry set 0) cycle_end in
        stands zone all.fixed (pos 0) s.0 ∙ until.alike s.0 tt s.2 ∙ before_first s.0 (λ _. s.1)

  -- ---- from an entry
  pub first_from : n < length (shifts_of set) → time_of_entry set n ≤ℤ cycle_begin → AgreesFirstFrom zone set (time_of_entry set n)
  first_from l low =
      let here = walked.later n (omega arith) l in
      record {
        entry = n;
        may = record { within = l; first = here.first; last = low };
        at = refl;
        agrees = for_ever repeats zone offset set (Some (time_of_entry set n)) (λ s h. le_le _ _ _ low h) here.from;
        none_before = λ other i range m may agrees.
            none_before set times zone n walked i m (earlier repeats zone other offset range set (time_of_entry set n) low here.from i may agrees);
      }

  -- ---- nowhere
  pub nowhere : (n < length (shifts_of set) → cycle_begin <ℤ time_of_entry set n) → AgreesNowhere zone set
  nowhere late i may agrees = ⊎_elim {C = ⊥}
      (λ before. none_before set times zone n walked i before (at_entry i may agrees))
      (λ past.
      let l : n < length (shifts_of set) = omega (arith, past, may.within) in
      absurd (omega (arith, ints, late l, times n i past may.within, may.last)))
      (cases_lt i n)

-- an entry that isn't early
pub late : (set : FixedTimespanSet) (n : ℕ) → (n < length (shifts_of set) → time_of_entry set n ≤ℤ cycle_begin → ⊥)
    → n < length (shifts_of set) → cycle_begin <ℤ time_of_entry set n
late set n none inside = by_lt_z {P = cycle_begin <ℤ time_of_entry set n} cycle_begin (time_of_entry set n)
    (λ lt. lt)
    (λ le. absurd (none inside le))

-- of entries alone, and not from the beginning of time on
pub told : (zone : FooterZone) (set : FixedTimespanSet) (answer : Agreement) → TellsEntry zone set answer → (AgreesAlways zone set → ⊥)
    → Tells zone set answer
told zone set Nowhere tells none = (tells, none)
told zone set (From second) tells none = (tells, none)
told zone set Always tells none = absurd tells
