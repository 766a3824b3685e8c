use Rattle.std.proofs.Common.{◌≡◌, ◌<◌, length}
use Rattle.zone_words.proofs.RunLemmas.{Fed}
use Rattle.zone_words.proofs.running.run_pieces.Given as goal

abbrev pub invariant-reads : goal.invariant-reads
invariant-reads g l = let F = g.F.Filter in let seen = g.E.Exchange.seen in record {
  made : F.made l.filter ≡ F.made l.fn.filter;
  room : 0 < length l.room;
  run : Fed (F.made l.fn.filter) (F.was_fed l.filter) (seen l.fn.exchange) (seen l.exchange) l.read l.fault;
}
