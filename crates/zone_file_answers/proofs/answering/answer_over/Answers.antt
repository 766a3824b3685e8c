use Rattle.std.proofs.Common.{◌≡◌, ◌∙◌, [], ap}
use Rattle.tz_ever.specs.{Asked.{asked_recurrence, asked_set}, Recurrences.{zone_total}}
use Rattle.tz_lookup.specs.InForce.{all_in_force}
use Rattle.zone_tzif_core.specs.ZoneFiles.{zone_seen}
use Rattle.zone_file_answers.proofs.ResponseLemmas.{found_over, opens}
use Rattle.zone_file_answers.proofs.answering.answer_over.Goals as goal

pub returns-in-Ok : goal.returns-in-Ok
returns-in-Ok c =
    let value = zone_seen c.args.zone.now in let spans = c.args.spans.now in let opened = c.requires.opened in
    let built = c.in-Ok.ensures in
    let total : zone_total (asked_recurrence c.new.result) (asked_set c.new.result) ≡ zone_total spans.recurrence spans.set =
    λ i. zone_total ((c.new.ensures.recurrence ∙ built.2) i) ((c.new.ensures.set ∙ built.1) i) in
    found_over c.args.file.now c.args.requests.now (zone_total (asked_recurrence c.new.result) (asked_set c.new.result))
    (record {
      value = value;
      footer = opened.says;
      says = c.requires.says;
      accepted = opened.file;
      is = λ t has. (λ i. total i t) ∙ c.opened_shows.ensures.total [] value spans opened t has;
      reads = λ x years. ap (λ f. all_in_force f x) total ∙ c.opened_shows.ensures.reads [] value spans opened x years;
    })
    c.answer_all.result c.answer_all.ensures.valid c.answer_all.ensures.lines c.answer_all.ensures.err

pub returns-in-Err-NoMemory : goal.returns-in-Err-NoMemory
returns-in-Err-NoMemory c =
    opens c.args.file.now (zone_seen c.args.zone.now) c.requires.opened.says c.requires.says c.requires.opened.file
