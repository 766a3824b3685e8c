use Rattle.std.proofs.Common.{w64, to_z-of_z, FitsSigned, rules, refl}
use Rattle.basics.specs.ComparisonLaws.{le_from_pass}
use Rattle.tz_lookup.specs.Sets.{schedule_of}
use Rattle.zone_tail.proofs.StepLemmas.{in_no_span, in_span, span_in}
use Rattle.zone_tail.proofs.walk.agrees_in_span.Goals as goal

pub returns-then-high-low : goal.returns-then-high-low
returns-then-high-low g c =
    let fits_low : FitsSigned w64 c.time-low.result = search rules in
    let fits_high : FitsSigned w64 c.end_of_span-high.result = search rules in
    let zone = schedule_of (g.S.SpanTable.seen c.args.set.now) in
    let ends = rw (to_z-of_z c.ranges.last) at c.end_of_span-high.ensures.end in
    let none = le_from_pass _ _ (rw (to_z-of_z fits_high, to_z-of_z fits_low) at c.if-high-low.true) in
    let agrees = in_no_span c.args.candidate.now zone c.args.last c.args.span c.time-low.result c.end_of_span-high.result _ c.requires.some c.time-low.ensures refl ends none in
    ((λ yes. agrees), (λ h. refl))

pub returns : goal.returns
returns g c =
    let fits_low : FitsSigned w64 c.time-low.result = search rules in
    let fits_high : FitsSigned w64 c.end_of_span-high.result = search rules in
    let fits_total : FitsSigned w64 c.total_of.result = search rules in
    let q = c.args.candidate.now in
    let zone = schedule_of (g.S.SpanTable.seen c.args.set.now) in
    let ends = rw (to_z-of_z c.ranges.last) at c.end_of_span-high.ensures.end in
    let says = rw (to_z-of_z fits_low, to_z-of_z fits_high, to_z-of_z fits_total) at c.is_constant.ensures in (
      (λ yes. in_span q zone c.args.last c.args.span c.time-low.result c.end_of_span-high.result c.total_of.result c.requires.some c.time-low.ensures c.total_of.ensures.total ends (says.0 yes)),
      (λ agrees. says.1 (span_in q zone c.args.last c.args.span c.time-low.result c.end_of_span-high.result c.total_of.result c.requires.some c.time-low.ensures c.total_of.ensures.total ends agrees)),
    )
