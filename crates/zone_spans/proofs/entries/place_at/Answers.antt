use Rattle.std.proofs.{Common.{◌≡◌, true, false, length, get_or, sym, ap, ◌∙◌, subst, arith, to_z, of_z, w64}, lemmas.List.Sums.{position_or_len_is}, lemmas.Int.{to_z-of_z}}
use Rattle.zone_spans.{specs.Firings.{Firing}, specs.Listing.{is_at}, proofs.FiringLemmas.{some_rule}}
use Rattle.zone_spans.proofs.entries.place_at.Goals as goal

pub returns-then-is_at-clause-place : goal.returns-then-is_at-clause-place
returns-then-is_at-clause-place c =
    let fs = c.args.fired.now in
    let at : to_z w64 (of_z w64 c.args.start) ≡ c.args.start = to_z-of_z w64 c.args.start c.ranges.start in
    let x = c.index-fired-i.result in
    let here : is_at c.args.start (get_or fs c.loop-i.i x) ≡ true =
    ap (is_at c.args.start) (sym c.index-fired-i.is) ∙ ap (λ s. is_at s x) (sym at) ∙ sym c.is_at.ensures ∙ c.if-is_at.true in
    sym (position_or_len_is (is_at c.args.start) fs c.loop-i.i x (omega arith)
    (λ k l. subst (λ s. is_at s (get_or fs k x) ≡ false) at (c.loop-i.invariant k x l)) (λ l. here))

pub returns-clause-place : goal.returns-clause-place
returns-clause-place c =
    let fs = c.args.fired.now in
    let at : to_z w64 (of_z w64 c.args.start) ≡ c.args.start = to_z-of_z w64 c.args.start c.ranges.start in
    let x : Firing = record { time = c.args.start; rule = some_rule } in
    let end : c.loop-i.i ≡ length fs = omega arith in
    sym (position_or_len_is (is_at c.args.start) fs (length fs) x (omega arith)
    (λ k l. subst (λ s. is_at s (get_or fs k x) ≡ false) at (c.loop-i.invariant k x (omega (arith, l, end))))
    (λ l. absurd (omega (arith, l))))
