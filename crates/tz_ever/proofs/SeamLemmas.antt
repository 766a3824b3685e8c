-- Days and times of day, brought back by whole cycles.
use Rattle.std.proofs.Common.{◌≡◌, arith, ℕ, ◌+◌, ◌*◌, ◌/◌, ◌%◌, ◌<◌, ℤ, pos, ◌+ℤ◌, ◌-ℤ◌, ◌*ℤ◌, ◌≤ℤ◌, ◌<ℤ◌, int_le, int_lt, true, false, sym, ap, ◌∙◌}
use Rattle.basics.specs.{ComparisonLaws.{le_from_pass, lt_from_fail, lt_from_pass, lt_pass}, SignedLaws.{signed}}
use Rattle.civil_base.specs.{Clock.{nanos_per_day}, Layout.{day_part, time_part}, PartLaws.{parts-joined, time_part-inside}}
use Rattle.tz_ever.specs.{Seam.{brought_back, cycles_past, next_seam, next_seam_day, seam, seam_day}, SeamLaws.{ArePast, back_by, back_is, cycles_past-are}}

-- ---- days
by_parts : (d : ℤ) (q r : ℕ) → d -ℤ seam_day ≡ pos (q * 146097 + r) → r < 146097
    → (seam_day +ℤ pos r) *ℤ pos nanos_per_day ≡ brought_back (d *ℤ pos nanos_per_day)
by_parts d q r e h =
    let past : ArePast (d *ℤ pos nanos_per_day) q = record { begun = λ _. omega (arith, signed); not_over = omega (arith, signed) } in
    let same : (seam_day +ℤ pos r) *ℤ pos nanos_per_day ≡ d *ℤ pos nanos_per_day -ℤ pos (q * 12622780800000000000) = omega (arith, signed) in
    same ∙ sym (back_by (d *ℤ pos nanos_per_day) q past)

parts_of : (a : ℕ) → a ≡ a / 146097 * 146097 + a % 146097
parts_of a = omega arith

pub day_back : (d : ℤ) (a : ℕ) → d -ℤ seam_day ≡ pos a
    → (seam_day +ℤ pos (a % 146097)) *ℤ pos nanos_per_day ≡ brought_back (d *ℤ pos nanos_per_day)
day_back d a e = by_parts d (a / 146097) (a % 146097) (e ∙ ap (λ n. pos n) (parts_of a)) (omega arith)

same_cycles : (d : ℤ) (t k : ℕ) → t < nanos_per_day → ArePast (d *ℤ pos nanos_per_day) k → ArePast (d *ℤ pos nanos_per_day +ℤ pos t) k
same_cycles d t k h past = record {
  begun = λ some. let begun = past.begun some in omega (arith, signed);
  not_over = let not_over = past.not_over in omega (arith, signed);
}

earlier : (x t : ℤ) (k : ℕ) → (x -ℤ pos (k * 12622780800000000000)) +ℤ t ≡ (x +ℤ t) -ℤ pos (k * 12622780800000000000)
earlier x t k = omega (arith, signed)

-- the time of day stays
pub at_time : (d : ℤ) (t : ℕ) → t < nanos_per_day
    → brought_back (d *ℤ pos nanos_per_day) +ℤ pos t ≡ brought_back (d *ℤ pos nanos_per_day +ℤ pos t)
at_time d t h =
    let k = cycles_past (d *ℤ pos nanos_per_day) in
    let past = cycles_past-are (d *ℤ pos nanos_per_day) in
    ap (λ z. z +ℤ pos t) (back_by (d *ℤ pos nanos_per_day) k past) ∙ earlier (d *ℤ pos nanos_per_day) (pos t) k
    ∙ sym (back_by (d *ℤ pos nanos_per_day +ℤ pos t) k (same_cycles d t k h past))

-- ---- the test
from_day : (x d : ℤ) (t : ℕ) → d *ℤ pos nanos_per_day +ℤ pos t ≡ x → next_seam_day ≤ℤ d → seam ≤ℤ x
from_day x d t e h = omega (arith, signed)

from_seam_day : (x d : ℤ) (t : ℕ) → d *ℤ pos nanos_per_day +ℤ pos t ≡ x → seam_day ≤ℤ d → seam ≤ℤ x
from_seam_day x d t e h = omega (arith, signed)

before_day : (x d : ℤ) (t : ℕ) → d *ℤ pos nanos_per_day +ℤ pos t ≡ x → t < nanos_per_day → d <ℤ next_seam_day → x <ℤ next_seam
before_day x d t e b h = omega (arith, signed)

pub is_early : (x : ℤ) → int_lt (day_part x) next_seam_day ≡ true → brought_back x ≡ x
is_early x h =
    back_is x (lt_pass x next_seam (before_day x (day_part x) (time_part x) (parts-joined x) (time_part-inside x) (lt_from_pass _ _ h)))

pub is_late : (x : ℤ) → int_lt (day_part x) next_seam_day ≡ false → seam ≤ℤ x
is_late x h = from_day x (day_part x) (time_part x) (parts-joined x) (lt_from_fail _ _ h)

pub is_begun : (x : ℤ) → int_le seam_day (day_part x) ≡ true → seam ≤ℤ x
is_begun x h = from_seam_day x (day_part x) (time_part x) (parts-joined x) (le_from_pass _ _ h)
