use Rattle.std.{proofs.Common.{◌≡◌, ◌↔◌, ℕ, suc, ◌-◌, ◌<◌, length, w64, FitsSigned, to_z-of_z, rules, sym, ◌∙◌, subst, arith}, specs.Bool.{IsTrue}}
use Rattle.tz_lookup.specs.Sets.{schedule_of}
use Rattle.zone_tail.{specs.Agreement.{AgreesIn}, specs.Candidates.{ReachesTo, IsAllowed}, proofs.SpanLemmas.{length-shifts}, proofs.StepLemmas.{in_first, first_in}}
use Rattle.zone_tail.proofs.walk.goes_on.Goals as goal

pub returns-then-span-eq0 : goal.returns-then-span-eq0
returns-then-span-eq0 g c =
    let v = c.args.candidate.now in
    let zone = schedule_of (g.S.SpanTable.seen c.args.set.now) in
    let fits : FitsSigned w64 c.total_of.result = search rules in
    let says = rw (to_z-of_z fits ∙ c.total_of.ensures.total) at c.is_fixed_at.ensures in
    subst (λ (k : ℕ). IsTrue c.is_fixed_at.result ↔ (IsAllowed v zone k × AgreesIn v zone c.args.last k)) (sym c.if-span-eq0.true)
    ((λ yes. ((says.0 yes).0, in_first v zone c.args.last (says.0 yes).1)), (λ h. says.1 (h.0, first_in v zone c.args.last h.0 h.1)))

pub returns-then-reaches_to : goal.returns-then-reaches_to
returns-then-reaches_to g c =
    let v = c.args.candidate.now in
    let zone = schedule_of (g.S.SpanTable.seen c.args.set.now) in
    let fits : FitsSigned w64 c.time.result = search rules in
    let e : suc (c.args.span - 1) ≡ c.args.span = omega arith in
    let inside : c.args.span - 1 < length zone.shifts = omega (arith, length-shifts (g.S.SpanTable.seen c.args.set.now).others) in
    let reaches = subst (ReachesTo v) (to_z-of_z fits ∙ c.time.ensures) (c.reaches_to.ensures.0 c.if-reaches_to.true) in
    let says = rw (to_z-of_z c.ranges.last) at c.agrees_in_span.ensures in
    let allowed = subst (IsAllowed v zone) e (inside, reaches) in
    ((λ yes. (allowed, says.0 yes)), (λ h. says.1 h.1))
