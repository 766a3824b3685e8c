use Rattle.tz_posix.proofs.RangeLemmas.{standard_in_range, saving_in_range}
use Rattle.tz_posix.proofs.parse.resolve.Goals as goal

pub to_utc_offset-requires : goal.to_utc_offset-requires
to_utc_offset-requires c = standard_in_range c.args.tz.now c.in-Expanded.std c.in-Expanded.dst c.in-Expanded.is c.requires

pub saving_offset-requires-clause-own : goal.saving_offset-requires-clause-own
saving_offset-requires-clause-own c =
    (saving_in_range c.args.tz.now c.in-Expanded.std c.in-Expanded.dst c.in-Some-dst.dst c.in-Expanded.is c.in-Some-dst.is c.requires).0

pub with_saving-requires : goal.with_saving-requires
with_saving-requires c =
    (saving_in_range c.args.tz.now c.in-Expanded.std c.in-Expanded.dst c.in-Some-dst.dst c.in-Expanded.is c.in-Some-dst.is c.requires).1
