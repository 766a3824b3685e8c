use Rattle.zone_uses.proofs.ToldLemmas.{zone_cause}
use Rattle.zone_uses.proofs.told.offset_in_source.Goals as goal

pub returns-in_err-zone-clause-err : goal.returns-in_err-zone-clause-err
returns-in_err-zone-clause-err c =
    zone_cause c.from_residual-in_err-zone.result c.args.text.now c.args.name.now c.in_ok-source.source c.in_err-zone.field-0.0
    c.from_residual-in_err-zone.ensures.1 c.in_ok-source.ensures.ok c.in_err-zone.ensures.err
