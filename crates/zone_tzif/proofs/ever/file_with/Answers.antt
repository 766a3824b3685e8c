use Rattle.tz_ever.specs.ZoneShown.{zone_set_of}
use Rattle.zone_tzif.{specs.Until.{until_of}, specs.declared.convert.Saves.TheVariants.{Any}, proofs.EverLemmas.{clean_due, fault_is, file_is}, proofs.FileLemmas.{never_by}}
use Rattle.zone_tzif.proofs.ever.file_with.Goals as goal

pub with_footer-requires-clause-offset : goal.with_footer-requires-clause-offset
with_footer-requires-clause-offset c =
    (never_by Any (until_of c.new-front.result) c.args.footer.now c.new-front.ensures.accepted
    (clean_due (zone_set_of c.args.set.now) c.args.version c.args.footer.now c.requires)).0

pub with_footer-requires-clause-footer : goal.with_footer-requires-clause-footer
with_footer-requires-clause-footer c =
    (never_by Any (until_of c.new-front.result) c.args.footer.now c.new-front.ensures.accepted
    (clean_due (zone_set_of c.args.set.now) c.args.version c.args.footer.now c.requires)).1

pub returns-in-Ok : goal.returns-in-Ok
returns-in-Ok c =
    file_is (zone_set_of c.args.set.now) (until_of c.new-front.result) c.args.version c.args.footer.now c.requires c.new-front.ensures.is
    _ c.in-Ok.ensures.file

pub returns-in-Err : goal.returns-in-Err
returns-in-Err c =
    fault_is (zone_set_of c.args.set.now) (until_of c.new-front.result) c.args.version c.args.footer.now c.requires c.new-front.ensures.is
    _ c.in-Err.ensures.told
