use Rattle.std.proofs.{Common.{◌∙◌, map, sym}, lemmas.List.{length-map}}
use Rattle.tz_lookup.specs.InForce.{all_in_force}
use Rattle.sefunjaro.{specs.Asked.{reading_of}, proofs.FoundLemmas.{among_is, in_gap_is}}
use Rattle.sefunjaro.specs.Zones.{total_in}
use Rattle.sefunjaro.proofs.found.find.Goals as goal

pub returns-else-count-eq0 : goal.returns-else-count-eq0
returns-else-count-eq0 c =
    let total = total_in c.args.zone.now in
    let all = all_in_force total c.args.local.now in
    let told = c.readings_or_gap-count in
    among_is total c.args.fold c.args.gap c.args.local.now (map reading_of all) told.new.room _ _ _ _ told.result c.among.result told.ensures.answer.room
    (told.ensures.answer.all ∙ sym (length-map all reading_of)) c.if-count-eq0.false c.among.ensures

pub returns-then-count-eq0 : goal.returns-then-count-eq0
returns-then-count-eq0 c =
    let total = total_in c.args.zone.now in
    let all = all_in_force total c.args.local.now in
    let told = c.readings_or_gap-count in
    in_gap_is total c.args.fold c.args.gap c.args.local.now (map reading_of all) told.result told.new.gap c.in_gap.result
    (told.ensures.answer.all ∙ sym (length-map all reading_of)) c.if-count-eq0.true (told.ensures.answer.skipped c.if-count-eq0.true) c.in_gap.ensures
