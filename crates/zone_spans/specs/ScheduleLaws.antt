-- The total in force is one of the schedule's.
use Rattle.std.{specs.Prelude.{◌≡◌, Bool, true, false, cond, List, [], ◌∷◌, filter, ℤ, pos, ◌*ℤ◌, int_le}, specs.List.{list_all}, proofs.lemmas.Bool.{and_parts}}
use Rattle.basics.specs.Offsets.{is_offset}
use Rattle.zone_spans.specs.Schedules.{Schedule, last_total, total_at, is_in_offset_range}

last_is_offset : (test : ℤ × ℤ → Bool) (first : ℤ) (shifts : List (ℤ × ℤ)) → is_offset first ≡ true
    → list_all (λ (shift : ℤ × ℤ). is_offset shift.1) shifts ≡ true →
    is_offset (last_total first (filter test shifts)) ≡ true
last_is_offset test first [] h all = h
last_is_offset test first (shift ∷ shifts) h all =
    let both : (is_offset shift.1 ≡ true) × (list_all (λ (s : ℤ × ℤ). is_offset s.1) shifts ≡ true) = and_parts (is_offset shift.1) _ all in
    by_test (test shift) (last_is_offset test shift.1 shifts both.0 both.1) (last_is_offset test first shifts h both.1)
  where
    by_test : (b : Bool) → is_offset (last_total shift.1 (filter test shifts)) ≡ true
        → is_offset (last_total first (filter test shifts)) ≡ true →
        is_offset (last_total first (cond b (shift ∷ filter test shifts) (filter test shifts))) ≡ true
    by_test true begun not_begun = begun
    by_test false begun not_begun = not_begun

-- where every total is an offset, so is the total in force at each instant
pub total_is_offset : (schedule : Schedule) (instant : ℤ) → is_in_offset_range schedule ≡ true
    → is_offset (total_at schedule instant) ≡ true
unfolding total_at
total_is_offset schedule instant h =
    let both = and_parts (is_offset schedule.first) _ h in
    last_is_offset (λ shift. int_le (shift.0 *ℤ pos 1000000000) instant) schedule.first schedule.shifts both.0 both.1
