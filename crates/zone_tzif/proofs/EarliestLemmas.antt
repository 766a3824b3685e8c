-- A footer that says for ever what a set shows says so from each entry from which another does.
use Rattle.std.proofs.{Common.{◌≡◌, ℕ, zero, suc, Some, ℤ, ◌≤ℤ◌, ◌<ℤ◌, sym, ◌∙◌, arith}, lemmas.Int.{ints, by_lt_z}}
use Rattle.basics.specs.{ComparisonLaws.{le_le}, SignedLaws.{signed}}
use Rattle.civil_base.specs.Ranges.{IsOffset}
use Rattle.zone_spans.specs.Cycle.{seconds_on}
use Rattle.tz_tzif.specs.FooterForce.{FooterZone, held_at, standard_total}
use Rattle.tz_lookup.specs.declared.set.FixedTimespanSet.{FixedTimespanSet}
use Rattle.zone_tzif.{specs.Agreement.{AgreesForEver, MayBegin, cycle_begin, cycle_end, time_of_entry, year_zero}, specs.Walked.{Agrees, AgreesAt}, proofs.TailEverLemmas.{Repeats, cycle_later, later, until_end}}

module _ (repeats : Repeats) (zone other : FooterZone) (offset : IsOffset (standard_total zone)) (other_offset : IsOffset (standard_total other))
    (set : FixedTimespanSet) (second : ℤ) (last : second ≤ℤ cycle_begin) (here : Agrees zone set (Some second))
    (i : ℕ) (may : MayBegin set i) (agrees : AgreesForEver other set (Some (time_of_entry set i))) where
  there : Agrees other set (Some (time_of_entry set i))
  there = until_end repeats other other_offset set (Some (time_of_entry set i)) (λ s h. le_le _ _ _ may.last h) agrees

  late : (s : ℤ) → cycle_begin ≤ℤ s → s <ℤ cycle_end → held_at zone s ≡ held_at other s
  late s begun to = here.alike s (le_le _ _ _ last begun) to ∙ sym (there.alike s (le_le _ _ _ may.last begun) to)

  -- in each of so many cycles before it both footers say the same
  both_in : (k : ℕ) (s : ℤ) → year_zero ≤ℤ s → s <ℤ cycle_end → cycle_begin ≤ℤ later s k → held_at zone s ≡ held_at other s
  both_in zero s from to past = late s (omega (arith, signed, past)) to
  both_in (suc k) s from to past =
      by_lt_z {P = held_at zone s ≡ held_at other s} s cycle_begin
      (λ lt. sym (cycle_later repeats zone offset s from to)
      ∙ both_in k (seconds_on s) (omega (arith, ints, from)) (omega (arith, ints, lt)) (omega (arith, signed, past))
      ∙ cycle_later repeats other other_offset s from to)
      (λ le. late s le to)

  pub earlier : AgreesAt zone set i
  earlier = record {
    first = may.first;
    from = record {
      alike = λ s begun before.
          let from = le_le _ _ _ may.first begun in
          both_in 6 s from before (omega (arith, signed, from)) ∙ there.alike s begun before;
    };
  }
