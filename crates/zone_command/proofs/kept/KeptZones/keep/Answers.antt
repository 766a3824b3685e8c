use Rattle.std.proofs.Common.{◌≡◌, Ok, true, subst, sym}
use Rattle.zone_command.{specs.Kept.{is_kept}, proofs.KeptLemmas.{now_kept, put_in, still_kept}}
use Rattle.zone_command.proofs.kept.KeptZones.keep.Goals as goal

pub invariant_of-self : goal.invariant_of-self
invariant_of-self g c = record {
  known = put_in (λ name zone. g.S.ZoneSource.found c.args.self.now.source.now name ≡ Ok (g.S.Zone.ReplyZone.view zone)) c.args.self.now.zones
      c.insert.new.self c.args.name.now c.in-Ok.zone c.insert.result c.insert.ensures.ok c.insert.ensures.err c.in-Ok.ensures.ok c.args.self.now.known;
}

pub returns-in_ok-insert-in-Ok-clause-kept : goal.returns-in_ok-insert-in-Ok-clause-kept
returns-in_ok-insert-in-Ok-clause-kept g c =
    subst (λ m. is_kept m c.args.name.now ≡ true) (sym c.in_ok-insert-in-Ok.ensures.ok) (now_kept c.args.self.now.zones c.args.name.now c.in-Ok.zone)

pub returns-in_ok-insert-in-Ok-clause-others : goal.returns-in_ok-insert-in-Ok-clause-others
returns-in_ok-insert-in-Ok-clause-others g c = λ other kept.
    subst (λ m. is_kept m other ≡ true) (sym c.in_ok-insert-in-Ok.ensures.ok) (still_kept c.args.self.now.zones c.args.name.now c.in-Ok.zone other kept)
