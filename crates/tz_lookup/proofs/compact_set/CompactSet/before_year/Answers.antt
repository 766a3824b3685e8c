use Rattle.std.proofs.{Common.{◌-◌, length, get_or, sym, ap, ◌∙◌, arith}, lemmas.List.{length-map}}
use Rattle.tz_lookup.{specs.{Sets.{shift_of, shifts_of}, CompactShown.{seen}}, proofs.YearCountLemmas.{upper}}
use Rattle.tz_lookup.proofs.compact_set.CompactSet.before_year.Goals as goal

pub returns-else-year-eq0-clause-bound : goal.returns-else-year-eq0-clause-bound
returns-else-year-eq0-clause-bound c =
    let set = seen c.args.self.now in
    let years = c.args.self.now.years in
    let all = length-map set.others shift_of in
    let is = c.get_or.ensures ∙ ap (get_or years (c.args.year - 1)) c.entry_count-count.ensures.count in
    let low = upper (shifts_of set) years (length set.others) (sym all) c.args.self.now.counted (c.args.year - 1) in
    omega (arith, is, low, all, c.entry_count-count.ensures.count, c.entry_count-count.ensures.bound)
