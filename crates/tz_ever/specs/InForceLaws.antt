-- What is in force, by the words of a schedule.
use Rattle.std.specs.Prelude.{◌≡◌, List, [], ◌∷◌, map, filter, true, false, cond, refl, ℤ, pos, ◌*ℤ◌, int_le}
use Rattle.zone_spans.specs.{Entries.{Entry, total}, Schedules.{last_total, total_at, totals_of}, declared.span.FixedTimespan.{FixedTimespan}, declared.span.FixedTimespanSet.{FixedTimespanSet}}
use Rattle.tz_ever.specs.InForce.{has_come, span_at, span_by}

total_by-is : (es : List Entry) (first : FixedTimespan) (t : ℤ)
    → last_total (total first) (filter (λ (shift : ℤ × ℤ). int_le (shift.0 *ℤ pos 1000000000) t) (map (λ (e : Entry). (e.0, total e.1)) es))
    ≡ total (span_by first es t)
unfolding span_by
total_by-is [] first t = refl
total_by-is (e ∷ es) first t =
    elim (has_come t e) as (λ b. last_total (total first) (cond b ((e.0, total e.1) ∷ shown es) (shown es))
    ≡ total (span_by (cond b e.1 first) es t)) [
      | true ↦ total_by-is es e.1 t
      | false ↦ total_by-is es first t
    ]
  where
    shown : List Entry → List (ℤ × ℤ)
    shown fs = filter (λ (shift : ℤ × ℤ). int_le (shift.0 *ℤ pos 1000000000) t) (map (λ (e : Entry). (e.0, total e.1)) fs)

-- the total is that of what is in force
pub total_at-is : (set : FixedTimespanSet) (t : ℤ) → total_at (totals_of set) t ≡ total (span_at set t)
unfolding total_at totals_of
total_at-is set t = total_by-is set.rest set.first t
