-- Which instants may be asked.
use Rattle.std.{proofs.Common.{◌≡◌, ◌<◌, true, ℤ, pos, ◌+ℤ◌, ◌-ℤ◌, ◌*ℤ◌, ◌≤ℤ◌, ◌<ℤ◌, to_z, of_z, unsigned_abs, arith}, specs.Prelude.{◌&&◌}, specs.Int.{w128}, proofs.lemmas.Int.{ints}}
use Rattle.basics.specs.{ComparisonLaws.{le_pass, lt_pass}, SignedLaws.{signed_casts}}
use Rattle.civil_base.specs.{DateTimes.{instant, local_of, offset_of}, Instants.{instant_at, local_at, nanos_of}, RangeLaws.{offset_least, offset_greatest, offset_size, years_begin, years_end}}
use Rattle.civil_base.specs.{Ranges.{end_of_times, first_time, greatest_offset, IsInYears, IsOffset}, declared.offset_date_time.OffsetDateTime.{OffsetDateTime}}
use Rattle.sefunjaro_c.specs.Times.{is_near}

-- the first and the end of all near instants
abbrev low : ℤ
low = first_time -ℤ nanos_of (pos greatest_offset)

abbrev high : ℤ
high = end_of_times +ℤ nanos_of (pos greatest_offset)

-- each instant whose local date lies in the years is near
pub shown_is_near : (t o : ℤ) → IsOffset o → IsInYears (local_at t o) → is_near t ≡ true
shown_is_near t o h years =
    let late : low ≤ℤ t = omega (arith, ints, years_begin (local_at t o) years, offset_greatest o h) in
    let early : t <ℤ high = omega (arith, ints, years_end (local_at t o) years, offset_least o h) in
    (λ i. le_pass low t late i && lt_pass t high early i)

-- the local time as the machine adds it up
pub sum_is : (nanos seconds from : ℤ) → unsigned_abs nanos < 10000000000000000000000000000 → IsOffset seconds → from ≡ seconds
    → to_z w128 (of_z w128 (to_z w128 (of_z w128 nanos) +ℤ to_z w128 (of_z w128 (pos 1000000000 *ℤ to_z w128 (of_z w128 from)))))
    ≡ local_at nanos seconds
sum_is nanos seconds from near h e = omega (arith, signed_casts, near, offset_size seconds h, e)

-- what is shown at UTC is moved to the offset by which it was reckoned
pub moved_back : (shown : OffsetDateTime) (nanos seconds offset local : ℤ) → instant shown ≡ local → offset_of shown ≡ pos 0
    → local ≡ local_at nanos seconds → offset ≡ seconds → instant_at (local_of shown) offset ≡ nanos
unfolding instant
moved_back shown nanos seconds offset local at utc is same = omega (arith, ints, at, utc, is, same)
