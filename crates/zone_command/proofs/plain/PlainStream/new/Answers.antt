use Rattle.zone_command.proofs.plain.PlainStream.new.Goals as goal

pub invariant_of-result-clause-of_day : goal.invariant_of-result-clause-of_day
invariant_of-result-clause-of_day c = tt
