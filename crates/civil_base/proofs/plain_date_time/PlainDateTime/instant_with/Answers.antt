use Rattle.std.proofs.Common.{arith, ◌≡◌, ◌≤◌, ◌≤ℤ◌, ◌<ℤ◌, ◌*◌, ℤ, pos, neg_ℤ, unsigned_abs}
use Rattle.basics.specs.SignedLaws.{signed, signed_casts, one_sided}
use Rattle.civil_base.specs.{Instants.{instant_at}, Ranges.{IsInYears, IsOffset, far_seconds, greatest_offset}, RangeLaws.{years_begin, years_end, offset_size}}
use Rattle.civil_base.proofs.plain_date_time.PlainDateTime.instant_with.Goals as goal

-- how large both numbers are
sizes : (c : goal.After-nanos-2) → (neg_ℤ (pos 377705116800000000000) ≤ℤ c.nanos.result) × (c.nanos.result <ℤ pos 253402300800000000000)
    × (unsigned_abs c.args.offset ≤ greatest_offset)
sizes c =
    let years = c.nanos.ensures.bound in
    (years_begin c.nanos.result years, years_end c.nanos.result years, offset_size c.args.offset c.nanos-2.ensures.bound)

pub overflow_sub-result : goal.overflow_sub-result
overflow_sub-result c = let size = sizes c in omega (arith, signed_casts, size.0, size.1, size.2)

pub returns-clause-value : goal.returns-clause-value
returns-clause-value c = let size = sizes c in omega (arith, signed_casts, size.0, size.1, size.2)

-- an instant that clocks show lies near the years
near : (n x o : ℤ) → n ≡ instant_at x o → IsInYears x → IsOffset o → unsigned_abs n ≤ far_seconds * 1000000000
near n x o e years small =
    omega (arith, signed, one_sided n, years_begin x years, years_end x years, offset_size o small)

pub returns-clause-bound : goal.returns-clause-bound
returns-clause-bound c = near _ c.args.self c.args.offset (returns-clause-value c)
    (rw (← c.nanos.ensures.value) c.nanos.ensures.bound) c.nanos-2.ensures.bound
