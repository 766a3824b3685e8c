use Rattle.std.{proofs.Common.{◌∙◌, to_z-of_z, FitsSigned, w32, rules, refl, ap}}
use Rattle.civil_base.specs.{DateTimes.{instant}, Layout.{day_part, time_part}}
use Rattle.sefunjaro.specs.{Zones.{total_in}, Clocks.{clock_at}}
use Rattle.sefunjaro_c.proofs.ShownLemmas.{where_none, where_shown}
use Rattle.sefunjaro_c.proofs.zones.clock_in.Goals as goal

pub returns-in-Some-clause-answer : goal.returns-in-Some-clause-answer
returns-in-Some-clause-answer c =
    let t = instant c.args.at.now in let fits : FitsSigned w32 c.offset_of.result = search rules in
    where_shown (total_in c.args.zone.now) t c.in-Some.shown _ _ (record { shown = c.in-Some.ensures.shown; years = c.in-Some.ensures.years }) (λ is. record {
      clock = c.clock_of.ensures ∙ ap (λ x. clock_at (day_part x) (time_part x)) is.local;
      offset = to_z-of_z fits ∙ c.offset_of.ensures ∙ is.offset;
    })

pub returns-in-None-clause-answer : goal.returns-in-None-clause-answer
returns-in-None-clause-answer c =
    let t = instant c.args.at.now in
    where_none (total_in c.args.zone.now) t _ _ (record { shown = c.in-None.ensures.shown; years = c.in-None.ensures.years }) refl
