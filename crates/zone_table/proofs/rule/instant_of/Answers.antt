use Rattle.std.proofs.{Common.{arith}, lemmas.Int.{ints}}
use Rattle.zone_table.{specs.Moments.{instant_of}, proofs.SecondsLemmas.{small_seconds}}
use Rattle.zone_table.proofs.rule.instant_of.Goals as goal

pub returns-in-UTC : goal.returns-in-UTC
unfolding instant_of
returns-in-UTC c = rw c.in-UTC.is (record {
  value = omega (arith, ints);
  least = omega (arith, ints);
  greatest = omega (arith, ints);
  earliest = omega (arith, ints);
  latest = omega (arith, ints);
})

pub returns-in-Standard : goal.returns-in-Standard
unfolding instant_of
returns-in-Standard c =
    let offset = small_seconds c.args.utc_offset c.requires.offset in
    rw c.in-Standard.is (record {
      value = omega (arith, ints, offset.0, offset.1);
      least = omega (arith, ints, offset.0, offset.1);
      greatest = omega (arith, ints, offset.0, offset.1);
      earliest = omega (arith, ints, offset.0, offset.1);
      latest = omega (arith, ints, offset.0, offset.1);
    })

pub returns-in-Wall : goal.returns-in-Wall
unfolding instant_of
returns-in-Wall c =
    let offset = small_seconds c.args.utc_offset c.requires.offset in
    let saving = small_seconds c.args.dst_offset c.requires.saving in
    rw c.in-Wall.is (record {
      value = omega (arith, ints, offset.0, offset.1, saving.0, saving.1);
      least = omega (arith, ints, offset.0, offset.1, saving.0, saving.1);
      greatest = omega (arith, ints, offset.0, offset.1, saving.0, saving.1);
      earliest = omega (arith, ints, offset.0, offset.1, saving.0, saving.1);
      latest = omega (arith, ints, offset.0, offset.1, saving.0, saving.1);
    })
