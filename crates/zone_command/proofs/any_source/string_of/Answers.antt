use Rattle.std.proofs.Common.{◌∷◌, [], ◌++◌, ◌∙◌, ap, rules}
use Rattle.zone_command.proofs.any_source.string_of.Goals as goal

pub returns-in_ok-extend_from_slice-in-Ok : goal.returns-in_ok-extend_from_slice-in-Ok
returns-in_ok-extend_from_slice-in-Ok c =
    record { from = c.in-Ok.tail.from; text = _; carries = c.in-Ok.ensures; line = c.in_ok-extend_from_slice-in-Ok.ensures.items ∙ ap (λ t. t ++ 10 ∷ []) (search rules) }
