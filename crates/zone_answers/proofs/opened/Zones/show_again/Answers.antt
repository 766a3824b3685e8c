use Rattle.std.{proofs.Common.{subst}, specs.Prelude.{IfSome}, proofs.lemmas.Result.{IfOk-weaker}}
use Rattle.zone_answers.specs.{Found.{found_in_table}, Opened.{table_of}, SameDays.{IsAdded, IsSameDay, front_of, last_instant}}
use Rattle.zone_answers.proofs.opened.Zones.show_again.Goals as goal

pub returns-in-Some : goal.returns-in-Some
returns-in-Some g c =
    let zones = c.args.self.now in
    let names = found_in_table g.Z.OpenedZone.read (table_of zones) in
    let same = subst (λ day. IfSome day (IsSameDay names last_instant (front_of zones.before.now))) c.in-Some.is c.requires.day in
    IfOk-weaker c.add.result _ _ (λ _ law has.
    subst (λ old. IsAdded names last_instant c.args.request.now old c.add.new.text.items) c.clear.ensures.items (law has _ _ same)) c.add.ensures.line
