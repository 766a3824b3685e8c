use Rattle.std.proofs.{Common.{w64, SFits, rules, sym, ◌∙◌, refl, subst}, lemmas.Int.{to_z-of_z}}
use Rattle.civil_base.specs.DateTimes.{local_of}
use Rattle.tz_lookup.{proofs.GivenLemmas.{each_read}, specs.{Sets.{IsNear, shifts_of}, UtcLaws.{second_at_utc}}}
use Rattle.tz_lookup.proofs.lookups.local_spans_counted.Goals as goal

pub spans_of_second-requires-clause-near : goal.spans_of_second-requires-clause-near
spans_of_second-requires-clause-near g c =
    let fs : SFits w64 c.unix_timestamp.result = search rules in
    let second = c.unix_timestamp.ensures.value ∙ second_at_utc c.args.date_time.now _ refl c.requires.utc in
    subst (IsNear (shifts_of (g.T.SpanTable.seen c.args.set.now)) c.args.low c.args.high) (sym (to_z-of_z w64 _ fs ∙ second)) c.requires.near

pub returns-clause-totals : goal.returns-clause-totals
returns-clause-totals g c =
    let fs : SFits w64 c.unix_timestamp.result = search rules in
    let x = local_of c.args.date_time.now in
    let second = c.unix_timestamp.ensures.value ∙ second_at_utc c.args.date_time.now x refl c.requires.utc in
    c.spans_of_second.ensures.exact x (sym (to_z-of_z w64 _ fs ∙ second))

pub returns-clause-read : goal.returns-clause-read
returns-clause-read g c =
    let fs : SFits w64 c.unix_timestamp.result = search rules in
    let x = local_of c.args.date_time.now in
    let second = c.unix_timestamp.ensures.value ∙ second_at_utc c.args.date_time.now x refl c.requires.utc in
    each_read (g.T.SpanTable.seen c.args.set.now) x _ c.requires.accepted (to_z-of_z w64 _ fs ∙ second) c.spans_of_second.result
    c.spans_of_second.ensures.within c.spans_of_second.ensures.lies
