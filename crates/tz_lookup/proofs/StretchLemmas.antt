-- The total throughout a span, and where the span of a second begins and ends.
use Rattle.std.proofs.{Common.{◌≡◌, ◌<◌, ◌≤◌, ℕ, zero, suc, Bool, true, false, cond, List, [], ◌∷◌, filter, length, ℤ, int_le, refl, sym, ap, ◌∙◌, arith}, lemmas.Bool.{ltb-false, ltb-true}}
use Rattle.std.specs.Prelude.{nat_lt}
use Rattle.basics.specs.{ComparisonLaws.{le_fail, le_pass}, SignedLaws.{signed}}
use Rattle.civil_base.specs.Instants.{nanos_of}
use Rattle.zone_spans.specs.Schedules.{Schedule, total_at}
use Rattle.tz_lookup.specs.{SecondLaws.{IsSecond, one_second, second_is, total_is}, SpanLaws.{total_from_cut}, Spans.{IsCut, Shift, shift_at, total_from, total_of}, Stretches.{stretch_begin, begin_second, count_until, stretch_end, end_second, greatest_second, least_second}}

begins_at : (s : ℤ) → IsSecond (nanos_of s) s
begins_at s = record { low = omega (arith, signed); high = omega (arith, signed) }

pub at_second : (zone : Schedule) (k : ℕ) (s : ℤ) → IsCut zone.shifts k s → total_at zone (nanos_of s) ≡ total_of zone.first zone.shifts k
at_second zone k s cut =
    total_is zone (nanos_of s) ∙ ap (total_from zone.first zone.shifts) (one_second _ _ _ (second_is (nanos_of s)) (begins_at s))
    ∙ total_from_cut zone.first zone.shifts k s cut

-- the entries up to a second are those in front of its cut
count_is : (shifts : List Shift) (k : ℕ) (t : ℤ) → IsCut shifts k t → count_until shifts t ≡ k
count_is [] zero t h = refl
count_is [] (suc k) t h = absurd (omega (arith, h.within))
count_is (s ∷ ss) zero t h =
    ap (λ b. length (cond b (s ∷ filter (λ (r : Shift). int_le r.0 t) ss) (filter (λ (r : Shift). int_le r.0 t) ss)))
    (le_fail s.0 t (h.after 0 (omega arith) (omega arith)))
    ∙ count_is ss zero t (record {
      within = omega arith;
      before = λ j l. absurd (omega arith);
      after = λ j l m. h.after (suc j) (omega arith) (omega (arith, m));
    })
count_is (s ∷ ss) (suc k) t h =
    ap (λ b. length (cond b (s ∷ filter (λ (r : Shift). int_le r.0 t) ss) (filter (λ (r : Shift). int_le r.0 t) ss)))
    (le_pass s.0 t (h.before 0 (omega arith)))
    ∙ ap suc (count_is ss k t (record {
      within = omega (arith, h.within);
      before = λ j l. h.before (suc j) (omega arith);
      after = λ j l m. h.after (suc j) (omega arith) (omega (arith, m));
    }))

pub begins_there : (zone : Schedule) (k : ℕ) (t begin : ℤ) → IsCut zone.shifts k t → begin ≡ begin_second least_second zone.shifts k → begin ≡ stretch_begin zone t
unfolding stretch_begin
begins_there zone k t begin cut is = is ∙ ap (begin_second least_second zone.shifts) (sym (count_is zone.shifts k t cut))

end_is : (shifts : List Shift) (k : ℕ) (end : ℤ) → (k < length shifts → end ≡ (shift_at shifts k).0) → (length shifts ≤ k → end ≡ greatest_second)
    → end ≡ end_second greatest_second shifts k
end_is shifts k end next last = by_test (nat_lt k (length shifts)) refl
  where
    by_test : (b : Bool) → nat_lt k (length shifts) ≡ b → end ≡ cond b (shift_at shifts k).0 greatest_second
    by_test true e = next (ltb-true _ _ e)
    by_test false e = last (ltb-false _ _ e)

pub ends_there : (zone : Schedule) (k : ℕ) (t end : ℤ) → IsCut zone.shifts k t → (k < length zone.shifts → end ≡ (shift_at zone.shifts k).0)
    → (length zone.shifts ≤ k → end ≡ greatest_second) → end ≡ stretch_end zone t
unfolding stretch_end
ends_there zone k t end cut next last =
    end_is zone.shifts k end next last ∙ ap (end_second greatest_second zone.shifts) (sym (count_is zone.shifts k t cut))
