-- What a set has in force, as a file says it, by its spans.
use Rattle.std.proofs.{Common.{◌≡◌, ℕ, zero, suc, ◌*ℤ◌, Bool, true, false, cond, List, [], ◌∷◌, map, ℤ, pos, int_le, refl, ap, ◌∙◌, arith}, lemmas.Int.{ints}}
use Rattle.std.specs.List.{slice_index_or}
use Rattle.basics.specs.ComparisonLaws.{le_fail, le_pass}
use Rattle.civil_base.specs.Instants.{seconds_of}
use Rattle.zone_spans.specs.{Entries.{Entry, total}, Schedules.{total_at, totals_of}, declared.span.FixedTimespan.{FixedTimespan}}
use Rattle.tz_ever.specs.{Ever.{ever_span, ever_total}, InForce.{has_come, span_by}, InForceLaws.{total_at-is}, Seam.{brought_back}}
use Rattle.tz_lookup.specs.{Compiles.{spans_of}, SecondLaws.{same_test}, Sets.{shift_of, shifts_of}, Spans.{IsCut}, declared.set.FixedTimespanSet.{FixedTimespanSet}}
use Rattle.zone_tzif.specs.{Agreement.{ever_kind}, Causes.{kind_in}, Values.{change_by, kind_by}, Walked.{come, kind_from}, declared.convert.Saves.TheVariants.{Any}}
use Rattle.zone_tzif_core.specs.{Totals.{last_kind}, Zones.{KindValue}}

-- the span after so many entries
span_after : FixedTimespan → Entry → List Entry → ℕ → FixedTimespan
span_after first d es zero = first
span_after first d es (suc i) = (slice_index_or es i d).1

after_tail : (first : FixedTimespan) (d e : Entry) (es : List Entry) (k : ℕ) → span_after e.1 d es k ≡ span_after first d (e ∷ es) (suc k)
unfolding span_after
after_tail first d e es zero = refl
after_tail first d e es (suc k) = refl

cut_by : (first : FixedTimespan) (d : Entry) (es : List Entry) (k : ℕ) (s : ℤ) → IsCut (map shift_of es) k s
    → last_kind (kind_by Any first) (come s es) ≡ kind_by Any (span_after first d es k)
unfolding span_after
cut_by first d [] zero s h = refl
cut_by first d [] (suc k) s h = absurd (omega (arith, h.within))
cut_by first d (e ∷ es) zero s h =
    let none : IsCut (map shift_of es) zero s = record {
      within = omega arith;
      before = λ j l. absurd (omega arith);
      after = λ j l m. h.after (suc j) (omega arith) (omega (arith, m));
    } in
    ap (λ b. last_kind (kind_by Any first) (cond b (change_by Any e ∷ come s es) (come s es)))
    (le_fail e.0 s (h.after 0 (omega arith) (omega arith)))
    ∙ cut_by first d es zero s none
cut_by first d (e ∷ es) (suc k) s h =
    let fewer : IsCut (map shift_of es) k s = record {
      within = omega (arith, h.within);
      before = λ j l. h.before (suc j) (omega arith);
      after = λ j l m. h.after (suc j) (omega arith) (omega (arith, m));
    } in
    ap (λ b. last_kind (kind_by Any first) (cond b (change_by Any e ∷ come s es) (come s es)))
    (le_pass e.0 s (h.before 0 (omega arith)))
    ∙ cut_by e.1 d es k s fewer ∙ ap (kind_by Any) (after_tail first d e es k)

-- the span after a cut
pub kind_cut : (set : FixedTimespanSet) (k : ℕ) (s : ℤ) → IsCut (shifts_of set) k s → kind_from set s ≡ kind_in Any set k
unfolding span_after
kind_cut set zero s h = cut_by set.first (pos 0, set.first) set.others zero s h
kind_cut set (suc k) s h = cut_by set.first (pos 0, set.first) set.others (suc k) s h

kind_come : (first : FixedTimespan) (es : List Entry) (t : ℤ)
    → kind_by Any (span_by first es t) ≡ last_kind (kind_by Any first) (come (seconds_of t) es)
unfolding span_by
kind_come first [] t = refl
kind_come first (e ∷ es) t =
    ap (λ b. kind_by Any (span_by (cond b e.1 first) es t)) (same_test e.0 t)
    ∙ by_test (kind_come e.1 es t) (kind_come first es t) (int_le e.0 (seconds_of t))
  where
    by_test : kind_by Any (span_by e.1 es t) ≡ last_kind (kind_by Any e.1) (come (seconds_of t) es)
        → kind_by Any (span_by first es t) ≡ last_kind (kind_by Any first) (come (seconds_of t) es)
        → (b : Bool) → kind_by Any (span_by (cond b e.1 first) es t)
        ≡ last_kind (kind_by Any first) (cond b (change_by Any e ∷ come (seconds_of t) es) (come (seconds_of t) es))
    by_test here rest true = here
    by_test here rest false = rest

-- what is shown for ever is in force at the second of the instant brought back
pub ever_is : (set : FixedTimespanSet) (t second : ℤ) → seconds_of (brought_back t) ≡ second → ever_kind set t ≡ kind_from set second
unfolding ever_span
ever_is set t second back = kind_come set.first set.others (brought_back t) ∙ ap (kind_from set) back

-- and its total is what is shown
pub ever_total-is : (set : FixedTimespanSet) (t : ℤ) → ever_total set t ≡ (ever_kind set t).utoff
unfolding ever_total ever_span totals_of
ever_total-is set t = total_at-is (spans_of set) (brought_back t)
