use Rattle.std.proofs.Common.{inl, inr}
use Rattle.zone_command.{proofs.ShortLemmas.{short}, specs.Ends.{failed}, specs.FailureShown.{failure_shown}, specs.Failures.{no_memory}}
use Rattle.zone_command.proofs.running.run_zone.Goals as goal

-- its line was told, or that memory ran out
pub returns-in-Err : goal.returns-in-Err
returns-in-Err g c = elim c.tell_failure.ensures [
  | inl told ↦ record { outcome = failed (failure_shown c.in-Err.failure); cause = c.in-Err.ensures.0; delivered = (told, c.in-Err.ensures.1) }
  | inr shortage ↦ record { outcome = failed no_memory; cause = short _ _ _ _ _ (failure_shown c.in-Err.failure) c.in-Err.ensures.0; delivered = (shortage, c.in-Err.ensures.1) }
]
