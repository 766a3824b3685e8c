use Rattle.std.proofs.Common.{◌≡◌, suc, ◌+◌, ◌<◌, length, ◌≤ℤ◌, w64, to_z-of_z, FitsSigned, rules, refl, ap, ◌∙◌, arith}
use Rattle.basics.specs.ComparisonLaws.{le_from_pass}
use Rattle.tz_tzif.specs.FooterShown.{footer_shown}
use Rattle.tz_lookup.specs.Sets.{shifts_of}
use Rattle.zone_tzif_core.specs.Shown.{record_shown}
use Rattle.zone_tzif.{specs.Agreement.{year_zero}, specs.Causes.{kind_in}, specs.declared.convert.Saves.TheVariants.{Any}, proofs.StepLemmas.{agreed, agrees_at, agrees_briefly, length-shifts}}
use Rattle.zone_tzif.proofs.walk.agrees_in_span.Goals as goal

pub returns-then-high-low : goal.returns-then-high-low
returns-then-high-low g c =
    let set = g.S.SpanTable.seen c.args.set.now in
    let zone = footer_shown c.args.footer.now in
    let fits_low : FitsSigned w64 c.time-low.result = search rules in
    let fits_high : FitsSigned w64 c.end_of-high.result = search rules in
    let none : c.end_of-high.result ≤ℤ c.time-low.result = le_from_pass _ _ (rw (to_z-of_z fits_high, to_z-of_z fits_low) at c.if-high-low.true) in
    let inside : c.args.entry < length (shifts_of set) = omega (arith, length-shifts set.others, c.requires.within) in
    let agrees = agrees_briefly set c.requires.accepted.times zone c.args.entry c.time-low.result c.end_of-high.result (kind_in Any set (suc c.args.entry)) inside
    (rw c.time-low.ensures c.requires.first) c.time-low.ensures refl c.end_of-high.ensures.end none c.requires.later in
    ((λ yes. agrees), (λ h. refl))

pub returns : goal.returns
returns g c =
    let set = g.S.SpanTable.seen c.args.set.now in
    let zone = footer_shown c.args.footer.now in
    let fits_low : FitsSigned w64 c.time-low.result = search rules in
    let fits_high : FitsSigned w64 c.end_of-high.result = search rules in
    let next : c.args.entry + 1 ≡ suc c.args.entry = omega arith in
    let is = c.kind_at.ensures ∙ ap (kind_in Any set) next in
    let inside : c.args.entry < length (shifts_of set) = omega (arith, length-shifts set.others, c.requires.within) in
    let first : year_zero ≤ℤ c.time-low.result = rw c.time-low.ensures c.requires.first in
    let says = rw (to_z-of_z fits_low, to_z-of_z fits_high) at c.is_constant.ensures in (
      (λ yes. agrees_at set c.requires.accepted.times zone c.args.entry c.time-low.result c.end_of-high.result (record_shown c.kind_at.result) inside first c.time-low.ensures is c.end_of-high.ensures.end (says.0 yes) c.requires.later),
      (λ agrees. says.1 (agreed set c.requires.accepted.times zone c.args.entry c.time-low.result c.end_of-high.result (record_shown c.kind_at.result) inside first c.time-low.ensures is c.end_of-high.ensures.end agrees)),
    )
