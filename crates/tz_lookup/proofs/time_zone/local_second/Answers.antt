use Rattle.std.proofs.{Common.{w64, SFits, rules, sym, ◌∙◌}, lemmas.Int.{to_z-of_z}}
use Rattle.tz_lookup.{proofs.EachLemmas.{each_date, few_dates}, specs.UtcLaws.{second_at_utc}}
use Rattle.tz_lookup.proofs.time_zone.local_second.Goals as goal

pub returns-clause-value : goal.returns-clause-value
returns-clause-value c =
    let fs : SFits w64 c.unix_timestamp.result = search rules in
    to_z-of_z w64 _ fs ∙ c.unix_timestamp.ensures.value
    ∙ second_at_utc c.assume_utc.result c.args.local.now c.assume_utc.ensures.local c.assume_utc.ensures.offset

pub returns-clause-all : goal.returns-clause-all
returns-clause-all c = λ set accepted. each_date set c.args.local.now _ accepted (sym (returns-clause-value c))

pub returns-clause-few : goal.returns-clause-few
returns-clause-few c = λ set. few_dates set c.args.local.now _
