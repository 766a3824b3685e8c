use Rattle.std.proofs.Common.{map}
use Rattle.zone_tzif_core.specs.Shown.{shift_shown}
use Rattle.zone_tzif.{specs.Values.{change_by}, proofs.PlaceLemmas.{one_more}}
use Rattle.zone_tzif.proofs.convert.changes_of.Goals as goal

pub loop-place-preserved : goal.loop-place-preserved
loop-place-preserved g c =
    one_more shift_shown c.loop-place.changes.items c.push.new.self.items (map (change_by c.args.saves) (g.S.SpanTable.seen c.args.set.now).others) c.loop-place.place
    c.in_ok-change_at.field-0 c.loop-place.invariant c.in_ok-change_at.ensures c.in_ok-push.ensures.items
