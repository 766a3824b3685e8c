-- The days of an alarm end where they should.
use Rattle.std.{proofs.Common.{◌≡◌, ℕ, ◌+◌, ◌-◌, ◌*◌, ◌/◌, ◌<◌, ◌≤◌, Bool, true, false, cond, ℤ, pos, ◌-ℤ◌, ◌≤ℤ◌, ◌<ℤ◌, int_lt, unsigned_abs, ap, refl, arith}, specs.Prelude.{None}, proofs.Math.Nat.{le-div_iff_mul-le}}
use Rattle.basics.specs.{ComparisonLaws.{lt_fail, lt_from_fail}, SignedLaws.{natural, signed}}
use Rattle.civil_base.specs.Ranges.{last_day}
use Rattle.zone_texts.specs.Days.{count_between, day_after, last_of}

within : (d s n : ℕ) → 0 < s → n < d / s + 1 → n * s ≤ d
within d s n some l = let most : n ≤ d / s = omega arith in (le-div_iff_mul-le some).0 most

beyond : (d s : ℕ) → 0 < s → d < (d / s + 1) * s
beyond d s some = omega arith

counted : (b : Bool) (first last : ℤ) (step n : ℕ) → int_lt last first ≡ b → 0 < step → n < cond b 0 (unsigned_abs (last -ℤ first) / step + 1)
    → day_after first step n ≤ℤ last
counted true first last step n e some l = absurd (omega arith)
counted false first last step n e some l =
    let later : first ≤ℤ last = lt_from_fail last first e in
    let whole : last -ℤ first ≡ pos (unsigned_abs (last -ℤ first)) = natural (last -ℤ first) (omega (arith, signed)) in
    let short : n * step ≤ unsigned_abs (last -ℤ first) = within (unsigned_abs (last -ℤ first)) step n some l in
    omega (arith, signed, whole, short)

-- none of the days is past the last
pub up_to_last : (first last : ℤ) (step n : ℕ) → 0 < step → n < count_between first last step → day_after first step n ≤ℤ last
up_to_last first last step n some l = counted (int_lt last first) first last step n refl some l

-- and the next would be
pub next_past_last : (first last : ℤ) (step : ℕ) → 0 < step → first ≤ℤ last → last <ℤ day_after first step (count_between first last step)
next_past_last first last step some later =
    let count : count_between first last step ≡ unsigned_abs (last -ℤ first) / step + 1 =
    ap (λ b. cond b 0 (unsigned_abs (last -ℤ first) / step + 1)) (lt_fail last first later) in
    let whole : last -ℤ first ≡ pos (unsigned_abs (last -ℤ first)) = natural (last -ℤ first) (omega (arith, signed)) in
    let long : unsigned_abs (last -ℤ first) < (unsigned_abs (last -ℤ first) / step + 1) * step = beyond (unsigned_abs (last -ℤ first)) step some in
    let far : unsigned_abs (last -ℤ first) < count_between first last step * step = rw count long in
    omega (arith, signed, whole, far)

one_less : (n s : ℕ) → (n + 1 - 1) * s + s ≡ (n + 1) * s
one_less n s = let less : n + 1 - 1 ≡ n = omega arith in rw less (omega arith)

-- where no last day is told, the last of them lies past all years
pub past_years : (first : ℤ) (step : ℕ) → 0 < step → first ≤ℤ last_day
    → last_day <ℤ day_after first step (count_between first (last_of None step) step - 1)
past_years first step some early =
    let later : first ≤ℤ last_of None step = omega (arith, signed) in
    let next = next_past_last first (last_of None step) step some later in
    let count : count_between first (last_of None step) step ≡ unsigned_abs (last_of None step -ℤ first) / step + 1 =
    ap (λ b. cond b 0 (unsigned_abs (last_of None step -ℤ first) / step + 1)) (lt_fail (last_of None step) first later) in
    let less : (count_between first (last_of None step) step - 1) * step + step ≡ count_between first (last_of None step) step * step =
    rw count (one_less (unsigned_abs (last_of None step -ℤ first) / step) step) in
    omega (arith, signed, next, less)
