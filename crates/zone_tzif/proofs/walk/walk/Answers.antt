use Rattle.std.proofs.Common.{◌≡◌, suc, ◌-◌, subst, arith}
use Rattle.tz_tzif.specs.FooterShown.{footer_shown}
use Rattle.zone_tzif.{specs.Walked.{AgreesAt}, proofs.StepLemmas.{one_more}}
use Rattle.zone_tzif.proofs.walk.walk.Goals as goal

pub goes_on-requires-clause-later : goal.goes_on-requires-clause-later
goes_on-requires-clause-later g c more =
    c.entries.invariant.later (suc (c.entries.from - 1)) (omega arith) more

pub entries-preserved : goal.entries-preserved
entries-preserved g c = record {
  within = omega arith;
  later = one_more (footer_shown c.args.footer.now) (g.S.SpanTable.seen c.args.set.now) c.entries.from (omega arith)
      (c.goes_on.ensures.0 c.if-not-goes_on.false) c.entries.invariant.later;
}

pub returns-then-not-goes_on : goal.returns-then-not-goes_on
returns-then-not-goes_on g c = record {
  within = c.entries.invariant.within;
  later = c.entries.invariant.later;
  stops = λ i is agrees.
      let e : i ≡ c.entries.from - 1 = omega arith in
      let yes = c.goes_on.ensures.1 (subst (AgreesAt (footer_shown c.args.footer.now) (g.S.SpanTable.seen c.args.set.now)) e agrees) in
      let no = c.if-not-goes_on.true in
      cc;
}

pub returns : goal.returns
returns g c = record {
  within = c.entries.invariant.within;
  later = c.entries.invariant.later;
  stops = λ i is agrees. absurd (omega arith);
}
