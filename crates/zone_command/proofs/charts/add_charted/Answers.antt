use Rattle.std.proofs.Common.{◌≡◌, List, ℕ, Err, OnOk, map, refl, subst, sym}
use Rattle.zone_command.{specs.Named.{named_in, named_view}, specs.Refusals.{IsTold}, specs.Replies.{IsStep}, proofs.ChartLemmas.{pushed, refused}, proofs.charts.add_charted.Goals.{in-Ok-push, in-Err}}
use Rattle.zone_command.proofs.charts.add_charted.Goals as goal
use Rattle.zone_texts.specs.SeenZones.{named}

pub returns-in-Err-Why-clause-err : goal.returns-in-Err-Why-clause-err
returns-in-Err-Why-clause-err g c = λ before others.
    refused (g.S.ZoneSource.found c.args.source.now) before c.args.name.now others c.in-Err-Why.words.items
    (subst (IsTold (λ words. named_in (g.S.ZoneSource.found c.args.source.now) c.args.name.now ≡ Err words)) c.in-Err-Why.field-0-is c.in-Err-Why.ensures.err)

pub returns-clause-ok : goal.returns-clause-ok
returns-clause-ok g c =
    let of = named (named_view g.S.Zone.ReplyZone.view) in
    let P : Type 0 = (others : List (List ℕ)) → IsStep (g.S.ZoneSource.found c.args.source.now) c.args.name.now others (map of c.args.zones.now.items) (map of c.push.new.self.items) in
    elim c.match-push.branch [
      | in-Ok-push w ↦ subst (λ r. OnOk r P) (sym w.result-is)
          (pushed (g.S.ZoneSource.found c.args.source.now) of c.args.name.now c.args.zones.now.items c.push.new.self.items
          (record { name = c.args.name; zone = c.in-Ok.zone }) (named_view g.S.Zone.ReplyZone.view c.in-Ok.zone) c.in-Ok.ensures.ok refl w.in-Ok-push.ensures.items)
      | in-Err w ↦ subst (λ r. OnOk r P) (sym w.result-is) (record {})
    ]
