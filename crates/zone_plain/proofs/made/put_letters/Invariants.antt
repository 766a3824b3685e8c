use Rattle.std.{proofs.Common.{◌≡◌, map, take, ◌++◌}, specs.Prelude.{string_bytes}}
use Rattle.zone_plain.specs.MadeNames.{letter}
use Rattle.zone_plain.proofs.made.put_letters.Given as goal

-- the letters so far
abbrev pub invariant-loop-digit : goal.invariant-loop-digit
invariant-loop-digit l = string_bytes l.into ≡ string_bytes l.fn.into ++ map letter (take l.digit-index l.fn.digits)
