use Rattle.std.proofs.Common.{subst, sym}
use Rattle.zone_table.{proofs.BoundedValues.{bounded_values}, specs.Built.{StandsFor}}
use Rattle.zone_table.proofs.table.TableBuilder.build.Goals as goal

pub returns-clause-bounded : goal.returns-clause-bounded
returns-clause-bounded c = λ values stands bounded.
    let inside = subst (λ built. StandsFor built values) (sym c.self.view_is) stands in
    bounded_values c.self.inside.table values inside.joined bounded
