use Rattle.std.proofs.{Common.{◌≡◌, ◌∙◌, pos, get_or, false, SFits, rules, w64, sym, ap, arith}, lemmas.Int.{to_z-of_z}, lemmas.List.{get_or_default}}
use Rattle.civil_base.specs.{Instants.{nanos_of}, Ranges.{is_in_years}}
use Rattle.sefunjaro_c.proofs.ListLemmas.{found, none_far}
use Rattle.sefunjaro_c.proofs.lists.far_place.Goals as goal

pub returns-then-not-is_in_years : goal.returns-then-not-is_in_years
returns-then-not-is_in_years c =
    let seconds = c.args.seconds.now in
    let i = c.loop-i.i in
    let fits : SFits w64 c.second_at.result = search rules in
    let second = to_z-of_z w64 _ fits ∙ c.second_at.ensures in
    let here : is_in_years (nanos_of (get_or seconds i (pos 0))) ≡ false =
    ap (λ s. is_in_years (nanos_of s)) (sym second) ∙ sym c.is_in_years.ensures ∙ c.if-not-is_in_years.true in
    sym (found seconds i c.loop-i-test.true c.loop-i.invariant
    (λ d. ap (λ s. is_in_years (nanos_of s)) (get_or_default seconds i d (pos 0) c.loop-i-test.true) ∙ here))

pub returns : goal.returns
returns c = sym (none_far c.args.seconds.now (λ j d l. c.loop-i.invariant j d (omega (arith, l, c.loop-i-test.false))))
