use Rattle.std.specs.FinMap.{get}
use Rattle.source_tests.proofs.AgreedLemmas.{of_lines}
use Rattle.source_tests.proofs.agreement.agreed_in_table.Goals as goal

pub returns-in-Ok-clause-agreed : goal.returns-in-Ok-clause-agreed
returns-in-Ok-clause-agreed c pair q same found is covered =
    c.agreed_by.ensures (get c.args.table.now.rulesets) pair q same
    (of_lines c.args.table.now c.args.name.now _ c.in-Ok.set found c.in-Ok.ensures.ok.1) is covered
