-- The span that is in force by the order of the entries is that of the last entry that has come.
use Rattle.std.proofs.Common.{◌≡◌, ℕ, zero, suc, if◌then◌else◌, List, [], ◌∷◌, map, ℤ, pos, refl, ap, ◌∙◌, arith, slice_index_or}
use Rattle.basics.specs.ComparisonLaws.{le_fail, le_pass}
use Rattle.civil_base.specs.Instants.{seconds_of}
use Rattle.zone_spans.specs.{Entries.{Entry}, declared.span.FixedTimespan.{FixedTimespan}}
use Rattle.tz_ever.specs.InForce.{span_at, span_by}
use Rattle.tz_lookup.specs.{Compiles.{spans_of}, InForce.{IsInForce}, SecondLaws.{same_test}, Sets.{shift_of, span_in}, Spans.{IsCut}, declared.set.FixedTimespanSet.{FixedTimespanSet}}

-- span k of the entries behind a first span
abbrev pub numbered : FixedTimespan → FixedTimespan → List Entry → ℕ → FixedTimespan
numbered other first es zero = first
numbered other first es (suc i) = (slice_index_or es i (pos 0, other)).1

pub numbered_tail : (other first : FixedTimespan) (e : Entry) (es : List Entry) (k : ℕ)
    → numbered other e.1 es k ≡ numbered other first (e ∷ es) (suc k)
numbered_tail other first e es zero = refl
numbered_tail other first e es (suc k) = refl

span_by-cut : (other first : FixedTimespan) (es : List Entry) (k : ℕ) (t : ℤ) → IsCut (map shift_of es) k (seconds_of t)
    → span_by first es t ≡ numbered other first es k
unfolding span_by
span_by-cut other first [] zero t h = refl
span_by-cut other first [] (suc k) t h = absurd (omega (arith, h.within))
span_by-cut other first (e ∷ es) zero t h =
    let none : IsCut (map shift_of es) zero (seconds_of t) = record {
      within = omega arith;
      before = λ j l. absurd (omega arith);
      after = λ j l m. h.after (suc j) (omega arith) (omega (arith, m));
    } in
    ap (λ b. span_by (if b then e.1 else first) es t)
    (same_test e.0 t ∙ le_fail e.0 (seconds_of t) (h.after 0 (omega arith) (omega arith)))
    ∙ span_by-cut other first es zero t none
span_by-cut other first (e ∷ es) (suc k) t h =
    let fewer : IsCut (map shift_of es) k (seconds_of t) = record {
      within = omega (arith, h.within);
      before = λ j l. h.before (suc j) (omega arith);
      after = λ j l m. h.after (suc j) (omega arith) (omega (arith, m));
    } in
    ap (λ b. span_by (if b then e.1 else first) es t)
    (same_test e.0 t ∙ le_pass e.0 (seconds_of t) (h.before 0 (omega arith)))
    ∙ span_by-cut other e.1 es k t fewer ∙ numbered_tail other first e es k

pub in_force-is : (set : FixedTimespanSet) (k : ℕ) (t : ℤ) → IsInForce set k t → span_at (spans_of set) t ≡ span_in set k
in_force-is set k t h = span_by-cut set.first set.first set.others k t h ∙ same set k
  where
    same : (set : FixedTimespanSet) (k : ℕ) → numbered set.first set.first set.others k ≡ span_in set k
    same set zero = refl
    same set (suc k) = refl
