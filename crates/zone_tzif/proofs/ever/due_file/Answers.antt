use Rattle.std.proofs.Common.{refl, subst, string_bytes}
use Rattle.tz_ever.specs.ZoneShown.{zone_set_of}
use Rattle.zone_tzif.{specs.Tails.{IsNotSaved}, proofs.EverLemmas.{carried_by}, proofs.SavedLemmas.{saved_by}}
use Rattle.zone_tzif.proofs.ever.due_file.Goals as goal

pub file_with-requires : goal.file_with-requires
file_with-requires c =
    saved_by (zone_set_of c.args.set.now) _ _ c.compact.ensures.seen refl (c.is_saved_for_good.ensures.yes c.if-is_saved_for_good.true)

pub file_with-requires-in-Ok : goal.file_with-requires-in-Ok
file_with-requires-in-Ok c =
    let tail = c.in-Ok.tail in
    carried_by (zone_set_of c.args.set.now) tail.from (string_bytes tail.text) c.as_str-footer.result.now c.version_of-version.result
    c.as_str-footer.ensures.value c.in-Ok.ensures c.version_of-version.ensures

pub returns-in-Err : goal.returns-in-Err
returns-in-Err c =
    (c.in-Err.ensures, subst IsNotSaved c.compact.ensures.seen (c.is_saved_for_good.ensures.no c.if-is_saved_for_good.false))
