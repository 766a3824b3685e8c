use Rattle.std.proofs.{Common.{◌≡◌, ◌-◌, suc, length, w64, SFits, rules, arith, ◌∙◌, subst}, lemmas.Int.{to_z-of_z}, lemmas.List.{length-map}}
use Rattle.tz_lookup.{specs.{Sets.{shift_of, shifts_of}, Years.{HaveBegun}}, proofs.YearCountLemmas.{all_before}}
use Rattle.tz_lookup.proofs.compact_set.years_reached.Goals as goal

pub returns-else-count-eq0-clause-later : goal.returns-else-count-eq0-clause-later
returns-else-count-eq0-clause-later c = λ i l m.
    let shifts = shifts_of c.args.set.now in
    let last = c.entry_count-count.result - 1 in
    let size : suc last ≡ length shifts = omega (arith, c.entry_count-count.ensures.count, length-map c.args.set.now.others shift_of, c.if-count-eq0.false) in
    let fits : SFits w64 c.time.result = search rules in
    let time = to_z-of_z w64 _ fits ∙ c.time.ensures in
    all_before shifts last c.years_begun.result i size c.requires.times (subst (HaveBegun c.years_begun.result) time c.years_begun.ensures) l m
