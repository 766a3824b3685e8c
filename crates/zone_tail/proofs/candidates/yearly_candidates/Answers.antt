use Rattle.std.proofs.Common.{◌≡◌, ℕ, suc, ◌+◌, ◌≤◌, length, ℤ, ◌+ℤ◌, ◌≤ℤ◌, ◌<ℤ◌, w64, to_z, of_z, to_z-of_z, FitsSigned, rules, IfOk, sym, ap, subst, ◌∙◌, arith}
use Rattle.zone_spans.specs.Entries.{total}
use Rattle.tz_lookup.specs.{Sets.{total_of_span}, declared.set.FixedTimespanSet.{FixedTimespanSet}}
use Rattle.zone_tail.specs.{Changes.{changes_at}, LastYear.{standard_of, year_begin, year_end}, Shapes.{entry_in}, Tails.{rules_with}}
use Rattle.zone_tail.proofs.ReadyLemmas.{end_high, end_inside, end_low, start_high, start_inside, start_low, total_of_span-is, yearly_list}
use Rattle.zone_tail.proofs.candidates.yearly_candidates.Goals as goal

abbrev cast : ℤ → ℤ
cast z = to_z w64 (of_z w64 z)

-- a local second as it is computed
local_is : (x o y p : ℤ) → FitsSigned w64 x → FitsSigned w64 o → x ≡ y → o ≡ p → cast x +ℤ cast o ≡ y +ℤ p
local_is x o y p f g same ahead = (λ i. to_z-of_z f i +ℤ to_z-of_z g i) ∙ (λ i. same i +ℤ ahead i)

total_is : (set : FixedTimespanSet) (start : ℕ) (r : ℤ) → suc start ≤ length set.others → r ≡ total_of_span set (start + 1) → r ≡ total (entry_in set start).1
total_is set start r l is =
    let next : start + 1 ≡ suc start = omega arith in
    is ∙ ap (total_of_span set) next ∙ total_of_span-is set (suc start) l

pub changes_from-starts-requires : goal.changes_from-starts-requires
changes_from-starts-requires g c =
    let set = g.S.SpanTable.seen c.args.set.now in
    let fits : FitsSigned w64 c.entry_time.result = search rules in
    let is = local_is c.entry_time.result c.args.offset (entry_in set c.args.start).0 (standard_of set) fits c.ranges.offset c.entry_time.ensures c.requires.offset in
    record {
      begun = subst (λ s. year_begin ≤ℤ s) (sym is) (start_low set c.requires.accepted c.args.start c.args.end c.requires.form);
      not_over = subst (λ s. s <ℤ year_end) (sym is) (start_high set c.requires.accepted c.args.start c.args.end c.requires.form);
    }

pub entry_time-requires-2 : goal.entry_time-requires-2
entry_time-requires-2 g c = end_inside (g.S.SpanTable.seen c.args.set.now) c.requires.accepted c.args.start c.args.end c.requires.form

pub changes_from-ends-requires : goal.changes_from-ends-requires
changes_from-ends-requires g c =
    let set = g.S.SpanTable.seen c.args.set.now in
    let fits : FitsSigned w64 c.entry_time-2.result = search rules in
    let fits_total : FitsSigned w64 c.total_of-saving.result = search rules in
    let inside = start_inside set c.requires.accepted c.args.start c.args.end c.requires.form in
    let saving = total_is set c.args.start c.total_of-saving.result (omega (arith, inside)) c.total_of-saving.ensures.total in
    let is = local_is c.entry_time-2.result c.total_of-saving.result (entry_in set c.args.end).0 (total (entry_in set c.args.start).1) fits fits_total c.entry_time-2.ensures saving in
    record {
      begun = subst (λ s. year_begin ≤ℤ s) (sym is) (end_low set c.requires.accepted c.args.start c.args.end c.requires.form);
      not_over = subst (λ s. s <ℤ year_end) (sym is) (end_high set c.requires.accepted c.args.start c.args.end c.requires.form);
    }

pub returns : goal.returns
returns g c =
    let set = g.S.SpanTable.seen c.args.set.now in
    let h = c.requires.form in
    let fits : FitsSigned w64 c.entry_time.result = search rules in
    let fits_2 : FitsSigned w64 c.entry_time-2.result = search rules in
    let fits_total : FitsSigned w64 c.total_of-saving.result = search rules in
    let inside = start_inside set c.requires.accepted c.args.start c.args.end h in
    let saving = total_is set c.args.start c.total_of-saving.result (omega (arith, inside)) c.total_of-saving.ensures.total in
    let starts = local_is c.entry_time.result c.args.offset (entry_in set c.args.start).0 (standard_of set) fits c.ranges.offset c.entry_time.ensures c.requires.offset in
    let ends = local_is c.entry_time-2.result c.total_of-saving.result (entry_in set c.args.end).0 (total (entry_in set c.args.start).1) fits_2 fits_total c.entry_time-2.ensures saving in
    let first = c.changes_from-starts.ensures ∙ ap changes_at starts in
    let second = c.changes_from-ends.ensures ∙ ap changes_at ends in
    let offset = to_z-of_z c.ranges.offset ∙ c.requires.offset in
    let ahead = to_z-of_z fits_total ∙ saving in
    subst (λ cs. IfOk c.rules.result (λ list. list.items ≡ cs))
    ((λ i. rules_with (offset i) (ahead i) (first i) (second i)) ∙ sym (yearly_list set c.requires.accepted c.args.start c.args.end h)) c.rules.ensures
