use Rattle.std.{proofs.Common.{◌∙◌, refl, length}}
use Rattle.civil_base.specs.{DateTimes.{instant}, Layout.{zoned_text}}
use Rattle.sefunjaro.specs.{Zones.{total_in}, Rooms.{filled}}
use Rattle.sefunjaro_c.proofs.ShownLemmas.{where_none, where_shown}
use Rattle.sefunjaro_c.proofs.zones.text_in.Goals as goal

pub returns-in-Some-clause-answer : goal.returns-in-Some-clause-answer
returns-in-Some-clause-answer c =
    let t = instant c.args.at.now in
    where_shown (total_in c.args.zone.now) t c.in-Some.shown _ _ (record { shown = c.in-Some.ensures.shown; years = c.in-Some.ensures.years }) (λ is. record {
      room = c.fill_text.ensures.room ∙ (λ i. filled (zoned_text (is.instant i) (is.offset i)) c.args.text.now);
      length = c.fill_text.ensures.length ∙ (λ i. length (zoned_text (is.instant i) (is.offset i)));
    })

pub returns-in-None-clause-answer : goal.returns-in-None-clause-answer
returns-in-None-clause-answer c =
    let t = instant c.args.at.now in
    where_none (total_in c.args.zone.now) t _ _ (record { shown = c.in-None.ensures.shown; years = c.in-None.ensures.years }) refl
