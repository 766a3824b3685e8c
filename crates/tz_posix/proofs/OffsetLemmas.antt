-- Offsets in their range are less than 25 hours in size.
use Rattle.std.proofs.{Common.{◌≡◌, ℕ, ◌≤◌, Bool, true, false, cond, nat_le, Some, None, not, refl, arith}, lemmas.Bool.{and_parts, leb-true}}
use Rattle.basics.specs.SignedLaws.{signed}
use Rattle.civil_base.specs.Offsets.{signed_by}
use Rattle.tz_posix.specs.{Ranges.{is_time, offset_miss}, Seconds.{time_seconds, offset_seconds, IsWritten}, declared.time.Offset.{Offset}, declared.time.Time.{Time}}

no_miss : {A : Type 0} (passes : Bool) (miss : A) → cond passes None (Some miss) ≡ None → passes ≡ true
no_miss true miss e = refl
no_miss false miss e = absurd cc

time_seconds-most : (time : Time) → is_time 24 time ≡ true → time_seconds time ≤ 89999
unfolding time_seconds
time_seconds-most time h =
    let both = and_parts _ _ h in
    let first = and_parts (nat_le time.hh 24) _ both.0 in
    omega (arith, leb-true _ _ first.0, leb-true _ _ first.1, leb-true _ _ both.1)

signed_by-within : (negative : Bool) (size : ℕ) → size ≤ 89999 → IsWritten (signed_by negative size)
signed_by-within true size few = record { least = omega (arith, signed); greatest = omega (arith, signed) }
signed_by-within false size few = record { least = omega (arith, signed); greatest = omega (arith, signed) }

pub offset_seconds-within : (offset : Offset) → offset_miss offset ≡ None → IsWritten (offset_seconds offset)
unfolding offset_seconds
offset_seconds-within offset h =
    signed_by-within (not offset.positive) (time_seconds offset.time) (time_seconds-most offset.time (no_miss _ _ h))
