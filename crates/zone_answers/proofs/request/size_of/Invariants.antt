use Rattle.std.{proofs.Common.{◌≡◌, take}, specs.Str.Parse.{digits_value}}
use Rattle.zone_answers.proofs.request.size_of.Given as goal

abbrev pub invariant-loop-i : goal.invariant-loop-i
invariant-loop-i l = l.size ≡ digits_value 10 (take l.i l.digits)
