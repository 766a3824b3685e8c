use Rattle.std.proofs.Common.{subst}
use Rattle.civil_base.specs.Ranges.{IsOffset}
use Rattle.tz_lookup.proofs.TimeZoneLemmas.{fixed_two}
use Rattle.tz_lookup.proofs.fixed.Fixed.new.Goals as goal

pub invariant_of-result-clause-in_range : goal.invariant_of-result-clause-in_range
invariant_of-result-clause-in_range c = subst IsOffset c.whole_seconds-in_range.ensures.value c.whole_seconds-in_range.ensures.bound

pub invariant_of-result-clause-two : goal.invariant_of-result-clause-two
invariant_of-result-clause-two c = λ time. fixed_two c.args.offset time (invariant_of-result-clause-in_range c)
