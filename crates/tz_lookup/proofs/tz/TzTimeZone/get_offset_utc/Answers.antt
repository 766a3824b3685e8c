use Rattle.std.proofs.Common.{ap, pos, int_lt}
use Rattle.tz_lookup.proofs.tz.TzTimeZone.get_offset_utc.Goals as goal

pub returns-clause-name : goal.returns-clause-name
returns-clause-name c = record {
  span = c.span_in_force.result;
  in_force = c.span_in_force.ensures.in_force;
  named = ap (λ span. span.name) c.of_span.ensures.span;
  saves = ap (λ span. int_lt (pos 0) span.dst_offset) c.of_span.ensures.span;
}
