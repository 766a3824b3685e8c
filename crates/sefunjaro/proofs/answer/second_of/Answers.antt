use Rattle.std.proofs.{Common.{◌∙◌, SFits, rules, subst, w64}, lemmas.Int.{to_z-of_z}}
use Rattle.civil_base.specs.{DateTimes.{instant, offset_of}, Instants.{local_at}, Ranges.{IsInYears}}
use Rattle.sefunjaro.proofs.AnswerLemmas.{early_second, late_second}
use Rattle.sefunjaro.proofs.answer.second_of.Goals as goal

pub returns-clause-late : goal.returns-clause-late
returns-clause-late c =
    let fits : SFits w64 c.unix_timestamp.result = search rules in
    let nanos = c.unix_timestamp_nanos-nanos in
    let t = instant c.args.at.now in
    let o = offset_of c.args.at.now in
    late_second t o _ (subst (λ n. IsInYears (local_at n o)) nanos.ensures.value nanos.ensures.years) nanos.ensures.offset (to_z-of_z w64 _ fits ∙ c.unix_timestamp.ensures.value)

pub returns-clause-early : goal.returns-clause-early
returns-clause-early c =
    let fits : SFits w64 c.unix_timestamp.result = search rules in
    let nanos = c.unix_timestamp_nanos-nanos in
    let t = instant c.args.at.now in
    let o = offset_of c.args.at.now in
    early_second t o _ (subst (λ n. IsInYears (local_at n o)) nanos.ensures.value nanos.ensures.years) nanos.ensures.offset (to_z-of_z w64 _ fits ∙ c.unix_timestamp.ensures.value)
