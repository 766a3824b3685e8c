use Rattle.std.{proofs.Common.{ℤ, ◌-ℤ◌, w64, to_z-of_z, FitsSigned, rules, sym, ap, subst, ◌∙◌}, specs.Prelude.{nat_lt}}
use Rattle.tz_lookup.specs.Sets.{shifts_of}
use Rattle.zone_tail.{specs.LastYear.{year_end}, specs.Tails.{is_outlasting}, specs.Totals.{IsCount}, proofs.ShapeLemmas.{later_is}}
use Rattle.zone_tail.proofs.last_year.is_outlasting.Goals as goal

pub returns : goal.returns
unfolding is_outlasting
returns g c =
    let set = g.S.SpanTable.seen c.args.set.now in
    let fits : FitsSigned w64 c.standard_of.result = search rules in
    let count = subst (λ (o : ℤ). IsCount (shifts_of set) (year_end -ℤ o) c.entries_before.result) (to_z-of_z fits ∙ c.standard_of.ensures) c.entries_before.ensures in
    ap (nat_lt c.entries_before.result) c.entry_count.ensures.count
    ∙ sym (later_is set.others _ c.entries_before.result count)
