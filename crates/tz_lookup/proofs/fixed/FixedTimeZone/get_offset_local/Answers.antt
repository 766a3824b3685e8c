use Rattle.std.proofs.Common.{ℤ, [], ◌∷◌, ap, ◌∙◌}
use Rattle.civil_base.specs.DateTimes.{local_of}
use Rattle.tz_lookup.{specs.AnswerLaws.{instants_of_offsets}, proofs.TimeZoneLemmas.{fixed_totals}}
use Rattle.tz_lookup.proofs.fixed.FixedTimeZone.get_offset_local.Goals as goal

pub returns-clause-totals : goal.returns-clause-totals
returns-clause-totals c =
    let zone = c.args.self.now in
    ap (λ (o : ℤ). o ∷ []) c.answer.ensures.offset ∙ fixed_totals zone.offset (local_of c.args._date_time.now) zone.in_range

pub returns-clause-exact : goal.returns-clause-exact
returns-clause-exact c = λ _.
    let zone = c.args.self.now in
    let x = local_of c.args._date_time.now in
    instants_of_offsets (λ _. zone.offset) x _ (λ _. zone.in_range) (zone.two x) (returns-clause-totals c)
