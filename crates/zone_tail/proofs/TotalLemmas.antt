-- Each candidate agrees from the last entry before the last year, or from the first in it, up to its end.
use Rattle.std.proofs.{Common.{◌≡◌, ℕ, zero, suc, ◌<◌, ◌≤◌, ◌⊎◌, Bool, true, false, cond, List, [], ◌∷◌, length, ℤ, pos, ◌-ℤ◌, ◌≤ℤ◌, ◌<ℤ◌, refl, sym, ap, ◌∙◌, subst, ⊎_elim, arith}, lemmas.Int.{ints, by_lt_z}, lemmas.Bool.{cases_lt}}
use Rattle.basics.specs.{Days.{day, is_leap, days_in_year, days_in_month, days_after_zero, year_start, days_through, days_into_year}, ComparisonLaws.{le_le, lt_le}, SignedLaws.{signed}}
use Rattle.zone_spans.specs.Schedules.{Schedule}
use Rattle.tz_lookup.specs.{Spans.{IsCut, Shift, TimesDontFall, shift_at, total_of, total_from}, SpanLaws.{total_from_cut}}
use Rattle.tz_posix.specs.{DayLaws.{day-2100}, InForce.{instant_in, is_within, year_at}}
use Rattle.zone_tail.specs.{Agreement.{Agrees, AgreesFrom}, Candidates.{IsAllowed}, Choices.{candidate_at, IsChoice}, LastYear.{year_begin, year_end}, Rules.{IsNearYear, rule_total, time_of}, Totals.{HasBegun, IsCount}}
use Rattle.zone_tail.specs.declared.{candidate.Candidate.{Candidate}, candidate.Candidate.TheVariants.{Fixed, Ruled}, rule.YearlyRule.{YearlyRule}}
use Rattle.zone_tail.proofs.{PieceLemmas.{of_year}, SpanLemmas.{total_in_span}, StepLemmas.{by_instants, by_seconds}, YearLemmas.{IsInYear, year_at-is}}

start_before : (a b s : ℤ) → a ≤ℤ s → s <ℤ b → is_within a b s ≡ true
start_before a b s h k = grind (arith, ints)

end_after : (a b s : ℤ) → a <ℤ b → b ≤ℤ s → is_within a b s ≡ false
end_after a b s h k = grind (arith, ints)

end_before : (a b s : ℤ) → b ≤ℤ s → s <ℤ a → is_within a b s ≡ false
end_before a b s h k = grind (arith, ints)

start_after : (a b s : ℤ) → b <ℤ a → a ≤ℤ s → is_within a b s ≡ true
start_after a b s h k = grind (arith, ints)

pub day-2099 : day (pos 2099) 1 1 ≡ pos 47117
unfolding is_leap days_in_year days_in_month days_after_zero year_start days_through days_into_year day
day-2099 = refl

near-2099 : IsNearYear (pos 2099)
near-2099 = record { first = omega (arith, signed); last = omega (arith, signed) }

-- a second of the last year
pub in_last_year : (offset s : ℤ) → (year_begin -ℤ offset) ≤ℤ s → s <ℤ (year_end -ℤ offset) → year_at offset s ≡ pos 2099
in_last_year offset s low high =
    year_at-is offset s (pos 2099) near-2099 (inside (day (pos 2099) 1 1) (day (pos 2100) 1 1) day-2099 day-2100)
  where
    inside : (a b : ℤ) → a ≡ pos 47117 → b ≡ pos 47482 → IsInYear offset (pos 2099) s
    inside a b e f = record { begun = omega (arith, ints, day-2099); not_over = omega (arith, ints, day-2100) }

-- entry i comes at a moment and brings the total that is due then
pub record Gives (shifts : List Shift) (i : ℕ) (moment due : ℤ) : Type 0 where
  pub time : moment ≡ (shift_at shifts i).0
  pub total : (shift_at shifts i).1 ≡ due

abbrev pub start_in : YearlyRule → ℤ
start_in q = instant_in (pos 2099) q.standard (time_of q.start)

abbrev pub end_in : YearlyRule → ℤ
end_in q = instant_in (pos 2099) q.saving (time_of q.end)

-- the entries of the last year are e and the one after it, and they are the moments of the rule
pub record IsCandidate (zone : Schedule) (e : ℕ) (q : YearlyRule) : Type 0 where
  pub begins : IsCount zone.shifts (year_begin -ℤ q.standard) e
  pub ends : IsCount zone.shifts (year_end -ℤ q.standard) (suc (suc e))
  pub apart : (shift_at zone.shifts e).0 <ℤ (shift_at zone.shifts (suc e)).0
  pub moments :
      (Gives zone.shifts e (start_in q) q.saving × Gives zone.shifts (suc e) (end_in q) q.standard)
      ⊎ (Gives zone.shifts e (end_in q) q.standard × Gives zone.shifts (suc e) (start_in q) q.saving)

module _ (q : YearlyRule) (zone : Schedule) (e : ℕ) (h : IsCandidate zone e q) where
  abbrev last : ℤ
  last = year_end -ℤ q.standard

  -- from the first entry of the last year on
  by_moments : (s : ℤ) (b : Bool) → (shift_at zone.shifts e).0 ≤ℤ s → s <ℤ last → is_within (start_in q) (end_in q) s ≡ b
      → rule_total q s ≡ cond b q.saving q.standard
  by_moments s b l m is =
      of_year q s (pos 2099) (in_last_year q.standard s (le_le _ _ _ (h.begins.after e (omega arith) (omega (arith, h.ends.within))) l) m)
      ∙ ap (λ k. cond k q.saving q.standard) is

  -- up to the second entry, and from it on
  first_part : (s : ℤ) → (shift_at zone.shifts e).0 ≤ℤ s → s <ℤ (shift_at zone.shifts (suc e)).0 → s <ℤ last → rule_total q s ≡ (shift_at zone.shifts e).1
  first_part s l m n = ⊎_elim {C = rule_total q s ≡ (shift_at zone.shifts e).1}
      (λ g. by_moments s true l n (start_before _ _ s (subst (λ x. x ≤ℤ s) (sym g.0.time) l) (subst (λ x. s <ℤ x) (sym g.1.time) m)) ∙ sym g.0.total)
      (λ g. by_moments s false l n (end_before _ _ s (subst (λ x. x ≤ℤ s) (sym g.0.time) l) (subst (λ x. s <ℤ x) (sym g.1.time) m)) ∙ sym g.0.total)
      h.moments

  second_part : (s : ℤ) → (shift_at zone.shifts e).0 ≤ℤ s → (shift_at zone.shifts (suc e)).0 ≤ℤ s → s <ℤ last → rule_total q s ≡ (shift_at zone.shifts (suc e)).1
  second_part s l m n = ⊎_elim {C = rule_total q s ≡ (shift_at zone.shifts (suc e)).1}
      (λ g. by_moments s false l n (end_after _ _ s (apart _ _ g.0.time g.1.time) (subst (λ x. x ≤ℤ s) (sym g.1.time) m)) ∙ sym g.1.total)
      (λ g. by_moments s true l n (start_after _ _ s (apart _ _ g.0.time g.1.time) (subst (λ x. x ≤ℤ s) (sym g.1.time) m)) ∙ sym g.1.total)
      h.moments
    where
      apart : (a b : ℤ) → a ≡ (shift_at zone.shifts e).0 → b ≡ (shift_at zone.shifts (suc e)).0 → a <ℤ b
      apart a b at is = omega (arith, ints, h.apart)

  -- what is left of the last year after its first entry
  pub candidate_agrees : TimesDontFall zone.shifts → Agrees (Ruled q) zone last (suc e)
  candidate_agrees times = by_instants (Ruled q) zone last (suc e) (record {
    alike = λ s l m. by_lt_z {P = rule_total q s ≡ total_from zone.first zone.shifts s} s (shift_at zone.shifts (suc e)).0
        (λ lt. first_part s l lt m ∙ sym (total_in_span zone.shifts times zone.first (suc e) s (omega (arith, h.ends.within)) l (λ inside. lt)))
        (λ le. second_part s l le m ∙ sym (total_in_span zone.shifts times zone.first (suc (suc e)) s h.ends.within le (λ inside. lt_le _ _ _ m (h.ends.after (suc (suc e)) (omega arith) inside))));
  })

-- where the last year has no entry, the total of its span agrees
module _ (zone : Schedule) (last : ℤ) (k : ℕ) (ends : IsCount zone.shifts last k) where
  pub steady_agrees : TimesDontFall zone.shifts → Agrees (Fixed (total_of zone.first zone.shifts k)) zone last k
  steady_agrees times = by_instants (Fixed (total_of zone.first zone.shifts k)) zone last k (record {
    alike = λ s h m. sym (total_in_span zone.shifts times zone.first k s ends.within h (λ inside. lt_le _ _ _ m (ends.after k (omega arith) inside)));
  })

-- A total is asked for up to the end of the last year only as far as spans go: of two ends that as many entries lie before, either will do.
module _ (zone : Schedule) (total low high : ℤ) (n : ℕ) (lows : IsCount zone.shifts low n) (highs : IsCount zone.shifts high n) where
  cut_between : (s : ℤ) → low ≤ℤ s → s <ℤ high → IsCut zone.shifts n s
  cut_between s h m = record {
    within = lows.within;
    before = λ j l. let a = lows.before j l in omega (arith, ints, a);
    after = λ j l k. let a = highs.after j l k in omega (arith, ints, a);
  }

  cut_below : IsCut zone.shifts n (low -ℤ pos 1)
  cut_below = record {
    within = lows.within;
    before = λ j l. let a = lows.before j l in omega (arith, ints, a);
    after = λ j l k. let a = lows.after j l k in omega (arith, ints, a);
  }

  begun_below : (k : ℕ) (s : ℤ) → k ≤ length zone.shifts → s <ℤ high → HasBegun zone.shifts k s → HasBegun zone.shifts k (low -ℤ pos 1)
  begun_below zero s l m h = tt
  begun_below (suc i) s l m h = ⊎_elim {C = (shift_at zone.shifts i).0 ≤ℤ (low -ℤ pos 1)}
      (λ lt. let a = lows.before i lt in omega (arith, ints, a))
      (λ le. let a = highs.after i le (omega arith) in absurd (omega (arith, ints, a, h, m)))
      (cases_lt i n)

  longer : (k : ℕ) → k ≤ length zone.shifts → AgreesFrom (Fixed total) zone low k → AgreesFrom (Fixed total) zone high k
  longer k l from = record {
    alike = λ s h m. by_lt_z {P = total ≡ total_from zone.first zone.shifts s} s low
        (λ lt. from.alike s h lt)
        (λ le. from.alike (low -ℤ pos 1) (begun_below k s l m h) (omega (arith, ints))
        ∙ total_from_cut zone.first zone.shifts n (low -ℤ pos 1) cut_below
        ∙ sym (total_from_cut zone.first zone.shifts n s (cut_between s le m)));
  }

  pub same_agreement : (k : ℕ) → k ≤ length zone.shifts → Agrees (Fixed total) zone low k → Agrees (Fixed total) zone high k
  same_agreement k l agrees = by_instants (Fixed total) zone high k (longer k l (by_seconds (Fixed total) zone low k agrees))

only_at : (total : ℤ) (j : ℕ) → j < 1 → candidate_at (Fixed total ∷ []) j ≡ Fixed total
only_at total zero l = refl
only_at total (suc j) l = absurd (omega arith)

allowed_within : (candidate : Candidate) (zone : Schedule) (k : ℕ) → IsAllowed candidate zone k → k ≤ length zone.shifts
allowed_within candidate zone zero h = omega arith
allowed_within candidate zone (suc i) h = omega (arith, h.0)

-- the same of the choice of a total
pub same_choice : (zone : Schedule) (total low high : ℤ) (n i k : ℕ) → IsCount zone.shifts low n → IsCount zone.shifts high n
    → IsChoice (Fixed total ∷ []) zone low i k → IsChoice (Fixed total ∷ []) zone high i k
same_choice zone total low high n i k lows highs choice = record {
  within = choice.within;
  allowed = choice.allowed;
  agrees = moved low high i k lows highs choice.within choice.allowed choice.agrees;
  none_earlier = λ j m l before allowed agrees. choice.none_earlier j m l before allowed (moved high low j m highs lows l allowed agrees);
  first = λ j before. absurd (omega (arith, choice.within));
}
  where
    moved : (a b : ℤ) (j m : ℕ) → IsCount zone.shifts a n → IsCount zone.shifts b n → j < 1 → IsAllowed (candidate_at (Fixed total ∷ []) j) zone m
        → Agrees (candidate_at (Fixed total ∷ []) j) zone a m → Agrees (candidate_at (Fixed total ∷ []) j) zone b m
    moved a b j m ones others l allowed agrees =
        let is = only_at total j l in
        subst (λ c. Agrees c zone b m) (sym is)
        (same_agreement zone total a b n ones others m (allowed_within _ zone m allowed) (subst (λ c. Agrees c zone a m) is agrees))
