-- Totals by spans.
use Rattle.std.proofs.Common.{◌≡◌, ℕ, zero, suc, ◌<◌, ◌≤◌, List, [], ◌∷◌, length, map, ℤ, ◌≤ℤ◌, refl, ap, arith}
use Rattle.basics.specs.ComparisonLaws.{le_le, lt_le}
use Rattle.zone_spans.specs.Entries.{Entry}
use Rattle.tz_lookup.specs.{Sets.{shift_of}, SpanLaws.{total_from_cut}, Spans.{IsCut, Shift, TimesDontFall, shift_at, total_of, total_from}}
use Rattle.zone_tail.specs.Totals.{HasBegun, Lasts}

pub length-shifts : (entries : List Entry) → length (map shift_of entries) ≡ length entries
length-shifts [] = refl
length-shifts (e ∷ es) = ap suc (length-shifts es)

module _ (shifts : List Shift) (times : TimesDontFall shifts) where
  begun_before : (k : ℕ) (s : ℤ) → k ≤ length shifts → HasBegun shifts k s → (j : ℕ) → j < k → (shift_at shifts j).0 ≤ℤ s
  begun_before zero s l h j m = absurd (omega arith)
  begun_before (suc i) s l h j m = le_le _ _ _ (times j i (omega arith) (omega arith)) h

  cut_of_span : (k : ℕ) (s : ℤ) → k ≤ length shifts → HasBegun shifts k s → Lasts shifts k s → IsCut shifts k s
  cut_of_span k s l h m = record {
    within = l;
    before = begun_before k s l h;
    after = λ j n o. lt_le _ _ _ (m (omega arith)) (times k j n o);
  }

  -- the total while a span is in force
  pub total_in_span : (first : ℤ) (k : ℕ) (s : ℤ) → k ≤ length shifts → HasBegun shifts k s → Lasts shifts k s → total_from first shifts s ≡ total_of first shifts k
  total_in_span first k s l h m = total_from_cut first shifts k s (cut_of_span k s l h m)

  -- where a span has begun, so has each before it
  pub begun_down : (j k : ℕ) (s : ℤ) → j ≤ k → k ≤ length shifts → HasBegun shifts k s → HasBegun shifts j s
  begun_down zero k s l m h = tt
  begun_down (suc j) k s l m h = begun_before k s m h j (omega arith)
