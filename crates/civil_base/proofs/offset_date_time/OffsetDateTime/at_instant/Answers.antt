use Rattle.std.proofs.Common.{arith, ◌≡◌, ℤ, ap, ◌∙◌, to_z-of_z}
use Rattle.basics.specs.SignedLaws.{signed}
use Rattle.civil_base.{specs.Instants.{local_at, instant_at}, specs.DateTimes.{instant}, proofs.DateTimeLemmas.{instant-parts}}
use Rattle.civil_base.proofs.offset_date_time.OffsetDateTime.at_instant.Goals as goal

same : (t x o u : ℤ) → u ≡ instant_at x o → x ≡ local_at t o → u ≡ t
same t x o u e h = omega (arith, signed)

pub returns-clause-instant : goal.returns-clause-instant
returns-clause-instant c =
    let from = to_z-of_z c.ranges.nanos in
    same c.args.nanos c.in_ok-local.local c.args.offset (instant c.assume_offset.result)
    (instant-parts c.assume_offset.result ∙ (λ i. instant_at (c.assume_offset.ensures.local i) (c.assume_offset.ensures.offset i)))
    (c.in_ok-local.ensures.value ∙ ap (λ t. local_at t c.args.offset) from)
