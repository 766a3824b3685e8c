use Rattle.std.proofs.Common.{rules, arith, ◌≡◌, length, refl, take}
use Rattle.std.proofs.lemmas.List.{length-take-le}
use Rattle.zone_outside.proofs.Loops.{has_read_more, keeps_on, rest_is, rest_left}
use Rattle.zone_outside.proofs.outside.read_all.Goals as goal

pub returns-in_err-extend_from_slice-clause-rest : goal.returns-in_err-extend_from_slice-clause-rest
returns-in_err-extend_from_slice-clause-rest g c = rest_left _ _ _ _ _ _ c.reading.invariant.left c.in_ok-n.ensures.bytes

pub returns-then-n-eq0-clause-rest : goal.returns-then-n-eq0-clause-rest
returns-then-n-eq0-clause-rest g c = rest_left _ _ _ _ _ _ c.reading.invariant.left c.in_ok-n.ensures.bytes

pub returns-in_err-n-clause-rest : goal.returns-in_err-n-clause-rest
returns-in_err-n-clause-rest g c = rest_is _ _ _ _ c.reading.invariant.left c.in_err-n.ensures.bytes

pub returns-clause-rest : goal.returns-clause-rest
returns-clause-rest g c = rest_is _ _ _ _ c.reading.invariant.left refl

pub reading-preserved : goal.reading-preserved
reading-preserved g c =
    let grown = c.in_ok-extend_from_slice.ensures.len in
    let given = c.in_ok-n.ensures.given in
    let piece : length c.read.new.into ≡ 4096 = search rules in
    let long : length (take c.in_ok-n.n c.read.new.into) ≡ c.in_ok-n.n = length-take-le _ _ (omega (arith, piece, c.in_ok-n.ensures.bound)) in
    record {
      piece = piece;
      left = rw c.in_ok-extend_from_slice.ensures.items (has_read_more _ _ _ _ _ _ c.reading.invariant.left c.in_ok-n.ensures.bytes);
      given_least = omega (arith, c.reading.invariant.given_least, given, grown, long);
      given_most = omega (arith, c.reading.invariant.given_most, given, grown, long);
      names = keeps_on c.reading.invariant.names c.in_ok-n.ensures.names;
      faults = omega (arith, c.reading.invariant.faults, c.in_ok-n.ensures.cause.later);
    }
