use Rattle.std.proofs.Common.{◌≡◌, suc, ◌+◌, sym, subst, ◌∙◌, arith}
use Rattle.tz_lookup.specs.Sets.{shifts_of}
use Rattle.zone_tail.specs.Shapes.{entry_in}
use Rattle.zone_tzif.{specs.Agreement.{cycle_begin}, specs.Forms.{Shows}, specs.Tried.{first_from, form_of_two, next_year}, proofs.FormLemmas.{two_entries}}
use Rattle.zone_tzif.proofs.form.form_of.Goals as goal

pub returns-then-end-begin-eq2 : goal.returns-then-end-begin-eq2
returns-then-end-begin-eq2 g c =
    let set = g.S.SpanTable.seen c.args.set.now in
    let k = first_from (shifts_of set) cycle_begin in
    let is = c.first_from-begin.ensures.is in
    let next : c.first_from-begin.result + 1 ≡ suc k = omega (arith, is) in
    let two : first_from (shifts_of set) next_year ≡ k + 2 = omega (arith, is, c.first_from-end.ensures.is, c.if-end-begin-eq2.true, c.if-begin-end.true) in
    subst (λ form. Shows set form c.form_of_two.result)
    ((λ i. form_of_two (entry_in set (is i)) (entry_in set (next i))) ∙ sym (two_entries set two)) c.form_of_two.ensures
