use Rattle.std.{proofs.Common.{◌≡◌, take}, specs.List.{list_all}}
use Rattle.zone_line.specs.Kinds.{is_no_feed}
use Rattle.zone_line.proofs.reader.is_one_line.Given as goal

abbrev pub invariant-loop-i : goal.invariant-loop-i
invariant-loop-i l = l.all ≡ list_all is_no_feed (take l.i l.bytes)
