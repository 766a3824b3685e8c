use Rattle.std.proofs.Common.{◌≡◌, ℕ, ℤ, Bool, to_z-of_z, sym, ap, ◌∙◌}
use Rattle.tz_lookup.specs.declared.set.FixedTimespanSet.{FixedTimespanSet}
use Rattle.zone_tail.{specs.LastYear.{are_start_and_end}, specs.Shapes.{entry_in}, proofs.FormLemmas.{starts_first, ends_first, neither}}
use Rattle.zone_tail.proofs.last_year.form_of_pair.Goals as goal

-- the test of the offset that is kept
tested : (set : FixedTimespanSet) (e f : ℕ) (offset kept : ℤ) (found test : Bool) → kept ≡ offset → found ≡ are_start_and_end kept (entry_in set e) (entry_in set f)
    → found ≡ test → are_start_and_end offset (entry_in set e) (entry_in set f) ≡ test
tested set e f offset kept found test same is by = ap (λ o. are_start_and_end o (entry_in set e) (entry_in set f)) (sym same) ∙ sym is ∙ by

pub returns-then-are_start_and_end : goal.returns-then-are_start_and_end
returns-then-are_start_and_end g c =
    starts_first (g.S.SpanTable.seen c.args.set.now) c.args.first c.args.second (rw c.requires.offset at c.requires.shape)
    (tested (g.S.SpanTable.seen c.args.set.now) c.args.first c.args.second _ _ _ _ (to_z-of_z c.ranges.offset ∙ c.requires.offset) c.are_start_and_end.ensures c.if-are_start_and_end.true)

pub returns-then-are_start_and_end-2 : goal.returns-then-are_start_and_end-2
returns-then-are_start_and_end-2 g c =
    ends_first (g.S.SpanTable.seen c.args.set.now) c.args.first c.args.second (rw c.requires.offset at c.requires.shape)
    (tested (g.S.SpanTable.seen c.args.set.now) c.args.first c.args.second _ _ _ _ (to_z-of_z c.ranges.offset ∙ c.requires.offset) c.are_start_and_end.ensures c.if-are_start_and_end.false)
    (tested (g.S.SpanTable.seen c.args.set.now) c.args.second c.args.first _ _ _ _ (to_z-of_z c.ranges.offset ∙ c.requires.offset) c.are_start_and_end-else-are_start_and_end.ensures c.if-are_start_and_end-2.true)

pub returns-else-are_start_and_end-2 : goal.returns-else-are_start_and_end-2
returns-else-are_start_and_end-2 g c =
    neither (g.S.SpanTable.seen c.args.set.now) c.args.first c.args.second (rw c.requires.offset at c.requires.shape)
    (tested (g.S.SpanTable.seen c.args.set.now) c.args.first c.args.second _ _ _ _ (to_z-of_z c.ranges.offset ∙ c.requires.offset) c.are_start_and_end.ensures c.if-are_start_and_end.false)
    (tested (g.S.SpanTable.seen c.args.set.now) c.args.second c.args.first _ _ _ _ (to_z-of_z c.ranges.offset ∙ c.requires.offset) c.are_start_and_end-else-are_start_and_end.ensures c.if-are_start_and_end-2.false)
