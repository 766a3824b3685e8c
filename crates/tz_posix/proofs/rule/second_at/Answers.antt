use Rattle.std.proofs.{Common.{arith, ◌≡◌, ℤ, pos, neg_ℤ, ◌+ℤ◌, ◌-ℤ◌, ◌*ℤ◌, ◌≤ℤ◌, w32, w64, to_z, of_z, to_z-of_z, FitsSigned}, lemmas.Int.{ints}}
use Rattle.civil_base.specs.{Ranges.{IsOffset}, RangeLaws.{offset_least, offset_greatest}}
use Rattle.tz_posix.proofs.rule.second_at.Goals as goal

-- the sum as the code computes it, step by step
abbrev cast : ℤ → ℤ
cast z = to_z w64 (of_z w64 z)

local_is : (day seconds a b : ℤ) → FitsSigned w32 day → FitsSigned w32 seconds → a ≡ day → b ≡ seconds
    → cast (cast (cast a *ℤ pos 86400) +ℤ cast b) ≡ pos 86400 *ℤ day +ℤ seconds
local_is day seconds a b fits few is_day is_seconds =
    let first : cast a ≡ day = omega (arith, ints) in
    let product : cast (day *ℤ pos 86400) ≡ pos 86400 *ℤ day = omega (arith, ints) in
    let second : cast b ≡ seconds = omega (arith, ints) in
    let sum : cast (pos 86400 *ℤ day +ℤ seconds) ≡ pos 86400 *ℤ day +ℤ seconds = omega (arith, ints) in
    rw (first, product, second) sum

offset_is : (offset e : ℤ) → neg_ℤ (pos 93599) ≤ℤ offset → offset ≤ℤ pos 93599 → e ≡ offset → cast e ≡ offset
offset_is offset e least greatest is = omega (arith, ints)

fits_all : (day seconds offset : ℤ) → FitsSigned w32 day → FitsSigned w32 seconds → neg_ℤ (pos 93599) ≤ℤ offset → offset ≤ℤ pos 93599
    → FitsSigned w64 (pos 86400 *ℤ day +ℤ seconds -ℤ offset)
fits_all day seconds offset fits few least greatest = omega (arith, ints)

cast_all : (day seconds offset : ℤ) → FitsSigned w32 day → FitsSigned w32 seconds → neg_ℤ (pos 93599) ≤ℤ offset → offset ≤ℤ pos 93599
    → cast (pos 86400 *ℤ day +ℤ seconds -ℤ offset) ≡ pos 86400 *ℤ day +ℤ seconds -ℤ offset
cast_all day seconds offset fits few least greatest = omega (arith, ints)

-- both sides of the difference, and how large an offset is
sides : (day seconds offset a b whole e : ℤ) → FitsSigned w32 day → FitsSigned w32 seconds → IsOffset whole → whole ≡ offset
    → a ≡ to_z w32 (of_z w32 day) → b ≡ to_z w32 (of_z w32 seconds) → e ≡ to_z w32 (of_z w32 whole)
    → (cast (cast (cast a *ℤ pos 86400) +ℤ cast b) ≡ pos 86400 *ℤ day +ℤ seconds) × (cast e ≡ offset)
    × (neg_ℤ (pos 93599) ≤ℤ offset) × (offset ≤ℤ pos 93599)
sides day seconds offset a b whole e fits few bound value is_day is_seconds is_whole =
    let least = rw value at (offset_least whole bound) in
    let greatest = rw value at (offset_greatest whole bound) in
    let ahead : to_z w32 (of_z w32 whole) ≡ offset = omega (arith, ints, value, least, greatest) in (
      local_is day seconds a b fits few (rw (to_z-of_z fits) at is_day) (rw (to_z-of_z few) at is_seconds),
      offset_is offset e least greatest (rw ahead at is_whole),
      least,
      greatest,
    )

pub overflow_sub-result : goal.overflow_sub-result
overflow_sub-result c =
    let parts = sides c.args.day c.args.seconds c.args.offset c.from.result c.from-2.result c.whole_seconds.result c.from-3.result c.ranges.day c.ranges.seconds
    c.whole_seconds.ensures.bound c.whole_seconds.ensures.value c.from.ensures c.from-2.ensures c.from-3.ensures in
    rw (parts.0, parts.1) (fits_all c.args.day c.args.seconds c.args.offset c.ranges.day c.ranges.seconds parts.2 parts.3)

pub returns : goal.returns
returns c =
    let parts = sides c.args.day c.args.seconds c.args.offset c.from.result c.from-2.result c.whole_seconds.result c.from-3.result c.ranges.day c.ranges.seconds
    c.whole_seconds.ensures.bound c.whole_seconds.ensures.value c.from.ensures c.from-2.ensures c.from-3.ensures in
    rw (parts.0, parts.1) (cast_all c.args.day c.args.seconds c.args.offset c.ranges.day c.ranges.seconds parts.2 parts.3)
