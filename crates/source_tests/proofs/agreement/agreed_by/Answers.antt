use Rattle.source_tests.proofs.AgreedLemmas.{parsed_is, not_refused, of_zone}
use Rattle.source_tests.proofs.agreement.agreed_by.Goals as goal

pub returns-in-Ok : goal.returns-in-Ok
returns-in-Ok c rulesets pair q same compiled is covered =
    c.agreed_offset.ensures.agreed rulesets pair q c.args.zones.now same
    (of_zone rulesets _ c.args.set.now _ c.marked-zone.ensures compiled)
    (parsed_is c.args.text.now c.args.zones.now q c.one_reading.ensures is c.in-Ok.posix c.in-Ok.ensures) covered

pub returns-in-Err : goal.returns-in-Err
returns-in-Err c rulesets pair q same compiled is covered =
    absurd (not_refused c.args.text.now c.args.zones.now q c.one_reading.ensures is c.in-Err.field-0 c.in-Err.ensures)
