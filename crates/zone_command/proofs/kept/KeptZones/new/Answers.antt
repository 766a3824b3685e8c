use Rattle.std.proofs.Common.{◌≡◌, Ok}
use Rattle.zone_command.proofs.KeptLemmas.{none_known}
use Rattle.zone_command.proofs.kept.KeptZones.new.Goals as goal

pub invariant_of-result : goal.invariant_of-result
invariant_of-result g c = record {
  known = none_known (λ name zone. g.S.ZoneSource.found c.args.source.now name ≡ Ok (g.S.Zone.ReplyZone.view zone)) c.new.result c.new.ensures;
}
