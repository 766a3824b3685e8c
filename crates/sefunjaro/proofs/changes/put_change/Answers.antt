use Rattle.std.{proofs.Common.{refl, arith}, specs.Prelude.{Some, None}}
use Rattle.sefunjaro.proofs.changes.put_change.Goals as goal

pub returns-in-Some : goal.returns-in-Some
returns-in-Some g c = record { found = Some c.in-Some.change; is_at = c.in-Some.ensures; raised = refl; stands = c.put.ensures }

pub returns-in-None : goal.returns-in-None
returns-in-None g c = record { found = None; is_at = c.in-None.ensures; raised = omega arith; stands = refl }
