use Rattle.std.proofs.{Common.{◌≡◌, ◌∙◌, ◌+◌, Err, ap, arith, map, refl, sym, ◌++◌}, lemmas.Result.{IfErr-at_err}}
use Rattle.zone_list.{specs.Rows.{row}, specs.Windows.{window}, proofs.StepLemmas.{left, one_listed, none_listed, one_dated, none_dated, undated}, proofs.listing.list_window.Goals.{then-is_within+in-Ok, else-is_within}}
use Rattle.zone_list.proofs.listing.list_window.Goals as goal

pub loop-place-init : goal.loop-place-init
unfolding window
loop-place-init g c = record {
  listed = ap (λ rows. rows ++ map (row c.of-widths.result.times c.of-widths.result.names) (left c.args.asked.now.from c.args.asked.now.to (g.S.SpanTable.seen c.args.set.now) 0)) c.new-listing.ensures;
  dates = refl;
}

pub returns-in-Err-clause-range : goal.returns-in-Err-clause-range
returns-in-Err-clause-range g c = λ is.
    undated c.args.asked.now.from c.args.asked.now.to (g.S.SpanTable.seen c.args.set.now) c.loop-place.place _
    (omega (arith, c.loop-place-test.true, c.entry_count-place-end.ensures.count)) (sym c.is_within.ensures ∙ c.if-is_within.true)
    (c.in-Err.ensures.range (ap Err (IfErr-at_err (λ fault. c.in-Err.fault ≡ fault) is refl))) c.loop-place.invariant.dates

pub loop-place-preserved : goal.loop-place-preserved
loop-place-preserved g c =
    let set = g.S.SpanTable.seen c.args.set.now in
    let asked = c.args.asked.now in
    let place = c.loop-place.place in
    let times = c.of-widths.result.times in
    let names = c.of-widths.result.names in
    elim c.if-is_within.branch [
      | then-is_within+in-Ok w ↦ record {
        listed = one_listed times names asked.from asked.to set place _ _ _ (omega (arith, c.loop-place-test.true, c.entry_count-place-end.ensures.count))
            (sym c.is_within.ensures ∙ w.if-is_within.true) (w.listing-is ∙ w.in-Ok.ensures.row) c.loop-place.invariant.listed;
        dates = one_dated asked.from asked.to set place _ (omega (arith, c.loop-place-test.true, c.entry_count-place-end.ensures.count))
            (sym c.is_within.ensures ∙ w.if-is_within.true) w.in-Ok.ensures.ok c.loop-place.invariant.dates;
      }
      | else-is_within w ↦ record {
        listed = ap (λ rows. rows ++ map (row times names) (left asked.from asked.to set (place + 1))) w.listing-is
            ∙ none_listed times names asked.from asked.to set place _ _ (omega (arith, c.loop-place-test.true, c.entry_count-place-end.ensures.count))
            (sym c.is_within.ensures ∙ w.if-is_within.false) c.loop-place.invariant.listed;
        dates = none_dated asked.from asked.to set place _ (omega (arith, c.loop-place-test.true, c.entry_count-place-end.ensures.count))
            (sym c.is_within.ensures ∙ w.if-is_within.false) c.loop-place.invariant.dates;
      }
    ]
