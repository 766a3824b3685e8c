use Rattle.std.proofs.{Common.{length, ap, arith}, lemmas.List.{length-map}}
use Rattle.tz_lookup.specs.{InForce.{shown_of}, AnswerLaws.{instants_of_dates}, InstantLaws.{few_instants}}
use Rattle.tz_lookup.proofs.time_zone.InstantsOf.new.Goals as goal

pub invariant_of-result : goal.invariant_of-result
invariant_of-result g c =
    let left = g.Z.AllInstants.left c.args.zone.now c.begin.result in
    record {
      few = omega (
        arith,
        length-map left shown_of,
        ap length c.begin.ensures,
        few_instants (g.Z.TimeZone.total_at c.args.zone.now) c.args.local.now,
      );
    }

pub returns-clause-exact : goal.returns-clause-exact
returns-clause-exact g c = instants_of_dates _ _ _ (g.met.Z.TimeZone.in_range c.args.zone.now) c.begin.ensures
