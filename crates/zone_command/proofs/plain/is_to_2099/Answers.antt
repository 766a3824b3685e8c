use Rattle.std.proofs.Common.{rules, of_z, to_z, to_z-of_z, FitsSigned, ap, ◌∙◌}
use mir.Syntax.{w128}
use Rattle.std.specs.Prelude.{int_lt}
use Rattle.zone_command.proofs.PlainLemmas.{utc_instant}
use Rattle.zone_command.proofs.plain.is_to_2099.Goals as goal

pub returns-in-Local : goal.returns-in-Local
returns-in-Local c =
    let fits : FitsSigned w128 c.unix_timestamp_nanos.result = search rules in
    let latest : FitsSigned w128 c.from-in-Local.result = search rules in
    rw c.in-Local.is
    (ap (λ t. int_lt t (to_z w128 (of_z w128 c.from-in-Local.result)))
    (to_z-of_z fits ∙ c.unix_timestamp_nanos.ensures.value ∙ utc_instant _ _ c.assume_utc.ensures.local c.assume_utc.ensures.offset)
    ∙ ap (int_lt c.in-Local.local) (to_z-of_z latest ∙ c.from-in-Local.ensures))
