-- Totals by spans.
use Rattle.std.proofs.Common.{◌≡◌, ℕ, zero, suc, cond, List, [], ◌∷◌, filter, ℤ, int_le, refl, ap, ◌∙◌, arith}
use Rattle.basics.specs.ComparisonLaws.{le_fail, le_pass}
use Rattle.zone_spans.specs.Schedules.{last_total}
use Rattle.tz_lookup.specs.Spans.{Shift, IsCut, total_from, total_of}

-- the total after a cut is that of the span that begins there
pub total_from_cut : (first : ℤ) (shifts : List Shift) (k : ℕ) (t : ℤ) → IsCut shifts k t
    → total_from first shifts t ≡ total_of first shifts k
total_from_cut first [] zero t h = refl
total_from_cut first [] (suc k) t h = absurd (omega (arith, h.within))
total_from_cut first (s ∷ ss) zero t h =
    let none : IsCut ss zero t = record {
      within = omega arith;
      before = λ j l. absurd (omega arith);
      after = λ j l m. h.after (suc j) (omega arith) (omega (arith, m));
    } in
    ap (λ b. last_total first (cond b (s ∷ filter (λ (r : Shift). int_le r.0 t) ss) (filter (λ (r : Shift). int_le r.0 t) ss)))
    (le_fail s.0 t (h.after 0 (omega arith) (omega arith)))
    ∙ total_from_cut first ss zero t none
total_from_cut first (s ∷ ss) (suc k) t h =
    let fewer : IsCut ss k t = record {
      within = omega (arith, h.within);
      before = λ j l. h.before (suc j) (omega arith);
      after = λ j l m. h.after (suc j) (omega arith) (omega (arith, m));
    } in
    ap (λ b. last_total first (cond b (s ∷ filter (λ (r : Shift). int_le r.0 t) ss) (filter (λ (r : Shift). int_le r.0 t) ss)))
    (le_pass s.0 t (h.before 0 (omega arith)))
    ∙ total_from_cut s.1 ss k t fewer ∙ total_of_tail first s ss k
  where
    total_of_tail : (first : ℤ) (s : Shift) (ss : List Shift) (k : ℕ) → total_of s.1 ss k ≡ total_of first (s ∷ ss) (suc k)
    total_of_tail first s ss zero = refl
    total_of_tail first s ss (suc k) = refl
