use Rattle.std.proofs.{Common.{subst, sym}, lemmas.Result.{err_from_is_err_and}}
use Rattle.zone_answers.{proofs.ZoneLemmas.{each_kept, placed_same, same_found}, specs.Opened.{IsPlaced}}
use Rattle.zone_answers.proofs.opened.Zones.open.Goals as goal

pub returns-in_err-place-clause-err : goal.returns-in_err-place-clause-err
returns-in_err-place-clause-err g c =
    let same = same_found g.Z.OpenedZone.read c.args.self.now.table.now _ c.args.name.now c.stem_of-stem.ensures in
    let error = err_from_is_err_and c.from_residual.result c.from_residual.ensures.1 in
    rw (error.1, error.2, ← same) c.in_err-place.ensures.err

pub returns-clause-placed : goal.returns-clause-placed
returns-clause-placed g c =
    placed_same g.Z.OpenedZone c.args.self.now.table.now c.stem_place.new.self.opened _ c.args.name.now _ c.stem_of-stem.ensures c.in_ok-place.ensures.placed

pub returns-clause-opened : goal.returns-clause-opened
returns-clause-opened g c =
    let kind = g.Z.OpenedZone in
    let after = c.stem_place.new.self in
    let kept = c.in_ok-place.ensures.opened in
    let placed = placed_same kind c.args.self.now.table.now after.opened _ c.args.name.now _ c.stem_of-stem.ensures c.in_ok-place.ensures.placed in
    let placed_now = subst (λ table. IsPlaced kind table after.opened c.args.name.now c.in_ok-place.place) (sym c.in_ok-place.ensures.same) placed in
    record {
      bounded = kept.bounded;
      each = rw c.in_ok-insert.ensures.ok (each_kept kind after.table.now after.opened after.places c.args.name.now _ kept.each placed_now);
      last = kept.last;
      day = kept.day;
    }
