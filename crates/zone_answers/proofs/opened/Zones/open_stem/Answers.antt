use Rattle.std.proofs.{Common.{ap, length, take, ◌∙◌}, Math.Seq.{take-append_seam}}
use Rattle.zone_answers.{proofs.ZoneLemmas.{each_kept, each_stays, last_stays, stands_last}, specs.Opened.{IsOpened}}
use Rattle.zone_answers.proofs.opened.Zones.open_stem.Goals as goal

pub returns-clause-placed : goal.returns-clause-placed
returns-clause-placed g c =
    let table = c.args.self.now.table.now in
    let opened = c.args.self.now.opened in
    rw (c.in_ok-push.ensures.ok, c.len-place.ensures)
    (stands_last (IsOpened g.Z.OpenedZone table c.args.stem.now) opened c.in_ok-zone.zone c.in_ok-zone.ensures.ok)

pub returns-clause-opened : goal.returns-clause-opened
returns-clause-opened g c =
    let kind = g.Z.OpenedZone in
    let table = c.args.self.now.table.now in
    let opened = c.args.self.now.opened in
    record {
      bounded = c.requires.bounded;
      each = rw (c.in_ok-insert.ensures.ok, c.in_ok-push.ensures.ok, c.len-place.ensures)
          (each_kept kind table _ c.args.self.now.places c.args.stem.now _ (each_stays kind table opened _ c.args.self.now.places c.requires.each)
          (stands_last (IsOpened kind table c.args.stem.now) opened c.in_ok-zone.zone c.in_ok-zone.ensures.ok));
      day = c.requires.day;
      last = rw c.in_ok-push.ensures.ok (last_stays kind table opened _ c.args.self.now.last c.requires.last);
    }

pub returns-clause-kept : goal.returns-clause-kept
returns-clause-kept g c =
    let opened = c.args.self.now.opened in
    ap (take (length opened)) c.in_ok-push.ensures.ok ∙ take-append_seam opened _

pub returns-in_err-insert-clause-kept : goal.returns-in_err-insert-clause-kept
returns-in_err-insert-clause-kept g c =
    let opened = c.args.self.now.opened in
    ap (take (length opened)) c.in_ok-push.ensures.ok ∙ take-append_seam opened _
