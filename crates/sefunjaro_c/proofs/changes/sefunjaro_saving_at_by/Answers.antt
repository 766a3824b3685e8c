use Rattle.std.proofs.Common.{◌≡◌, to_z-of_z, subst}
use Rattle.sefunjaro.specs.{Changes.{saving_at}, Zones.{spans_in}}
use Rattle.sefunjaro_c.{specs.{Held.{OfKept, OnZone}, Answers.{Where}, Times.{is_instant}}, proofs.AskedLemmas.{handed}}
use Rattle.sefunjaro_c.proofs.changes.sefunjaro_saving_at_by.Goals as goal

pub returns-clause-answer : goal.returns-clause-answer
returns-clause-answer c =
    let told = c.saving_at-status in let saving = told.new.saving in let kept = saving ≡ c.args.saving.now in let zone = c.args.zone.now.part.opened in
    subst (λ s. OnZone zone told.result kept (λ held. OfKept held told.result kept (λ of_name.
    Where (is_instant s c.args.nanosecond) told.result kept (saving ≡ saving_at (spans_in of_name) s))))
    (to_z-of_z c.ranges.second)
    (handed c.in-Some.reading (λ reading. reading.opened) zone c.get.result.now told.result kept _ c.in-Some.ensures.reading c.get.ensures told.ensures.answer)
