use Rattle.std.proofs.{Common.{arith}, lemmas.Int.{ints}}
use Rattle.zone_table.proofs.SecondsLemmas.{small_seconds}
use Rattle.zone_table.proofs.rule.after_days.Goals as goal

pub returns : goal.returns
returns c =
    let time = small_seconds c.args.time c.requires.time in
    record {
      value = omega (arith, ints, time.0, time.1);
      least = omega (arith, ints, time.0, time.1);
      greatest = omega (arith, ints, time.0, time.1);
    }
