use Rattle.std.proofs.{Common.{◌≡◌, suc, ◌+◌, ℤ, pos, ◌+ℤ◌, ◌≤ℤ◌, neg_ℤ, int_lt, w64, to_z, of_z, to_z-of_z, FitsSigned, rules, subst, sym, ap, ◌∙◌, arith}, lemmas.List.Elements.{All-get_or}, lemmas.Int.{ints}}
use Rattle.zone_spans.specs.Entries.{total}
use Rattle.tz_lookup.specs.{Sets.{IsSpanTime, shifts_of, total_of_span}, Spans.{shift_at}}
use Rattle.zone_tail.{specs.Shapes.{entry_in}, proofs.ShapeLemmas.{shift_is}, proofs.SpanLemmas.{length-shifts}}
use Rattle.zone_tail.proofs.last_year.ends_before.Goals as goal

sum_fits : (t o : ℤ) → IsSpanTime t → neg_ℤ (pos 93599) ≤ℤ o → o ≤ℤ pos 93599 → FitsSigned w64 (to_z w64 (of_z w64 t) +ℤ to_z w64 (of_z w64 o))
sum_fits t o time least greatest = omega (arith, ints, time.0, time.1)

pub returns : goal.returns
returns g c =
    let set = g.S.SpanTable.seen c.args.set.now in
    let fits_time : FitsSigned w64 c.time.result = search rules in
    let fits_total : FitsSigned w64 c.total_of.result = search rules in
    let next : c.args.start + 1 ≡ suc c.args.start = omega arith in
    let time : c.time.result ≡ (entry_in set c.args.end).0 =
    c.time.ensures ∙ ap (λ (s : ℤ × ℤ). s.0) (shift_is (pos 0, set.first) set.others c.args.end c.requires.end) in
    let total_is : c.total_of.result ≡ total (entry_in set c.args.start).1 =
    c.total_of.ensures.total ∙ ap (total_of_span set) next ∙ ap (λ (s : ℤ × ℤ). s.1) (shift_is (pos 0, set.first) set.others c.args.start c.requires.start) in
    let at : IsSpanTime (shift_at (shifts_of set) c.args.end).0 = All-get_or (λ (s : ℤ × ℤ). IsSpanTime s.0) (shifts_of set) c.args.end (pos 0, pos 0) (omega (arith, length-shifts set.others, c.requires.end)) c.requires.accepted.bound in
    let near = subst IsSpanTime (sym c.time.ensures) at in
    ap (λ z. int_lt z (to_z w64 (of_z w64 c.args.local))) (to_z-of_z (sum_fits c.time.result c.total_of.result near c.total_of.ensures.least c.total_of.ensures.greatest))
    ∙ (λ i. int_lt ((to_z-of_z fits_time ∙ time) i +ℤ (to_z-of_z fits_total ∙ total_is) i) (to_z-of_z c.ranges.local i))
