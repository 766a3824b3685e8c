use Rattle.std.proofs.{Common.{w64, SFits, rules, sym, ◌∙◌}, lemmas.Int.{to_z-of_z}}
use Rattle.civil_base.specs.DateTimes.{instant}
use Rattle.tz_lookup.proofs.compact_tz.CompactTz.get_offset_utc_counted.Goals as goal

pub returns-clause-total : goal.returns-clause-total
returns-clause-total g c =
    let fs : SFits w64 c.unix_timestamp.result = search rules in
    c.of_span.ensures.total
    ∙ c.span_in_year.ensures.total (instant c.args.date_time.now) (sym (to_z-of_z w64 _ fs ∙ c.unix_timestamp.ensures.value))
