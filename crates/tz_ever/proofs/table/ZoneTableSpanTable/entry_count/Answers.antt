use Rattle.std.proofs.Common.{arith, ap, length, sym, ◌∙◌}
use Rattle.tz_ever.specs.Recurrences.{comes_again}
use Rattle.tz_ever.proofs.TableLemmas.{counted_always, counted_later, counted_never, few_kept, starts_first}
use Rattle.tz_ever.proofs.table.ZoneTableSpanTable.entry_count.Goals as goal

pub returns-in-Never-clause-count : goal.returns-in-Never-clause-count
returns-in-Never-clause-count c =
    (counted_never c.args.self.now _ (sym c.recurrence.ensures ∙ c.in-Never.is)
    (c.entry_count.ensures.count ∙ ap (λ s. length s.others) c.compact.ensures.seen)).is

pub returns-in-Later-clause-count : goal.returns-in-Later-clause-count
returns-in-Later-clause-count c = (counted_later c.args.self.now (sym c.recurrence.ensures ∙ c.in-Later.is)).is

pub returns-in-Later-clause-bound : goal.returns-in-Later-clause-bound
returns-in-Later-clause-bound c = (counted_later c.args.self.now (sym c.recurrence.ensures ∙ c.in-Later.is)).bound

pub returns-in-Always-clause-count : goal.returns-in-Always-clause-count
returns-in-Always-clause-count c = (counted_always c.args.self.now (sym c.recurrence.ensures ∙ c.in-Always.is)).is

pub returns-in-Always-clause-bound : goal.returns-in-Always-clause-bound
returns-in-Always-clause-bound c = (counted_always c.args.self.now (sym c.recurrence.ensures ∙ c.in-Always.is)).bound

pub overflow_sub-result : goal.overflow_sub-result
overflow_sub-result c = omega (arith, starts_first c.args.self.now (ap comes_again (sym c.recurrence.ensures ∙ c.in-Later.is)))

pub overflow_mul-result : goal.overflow_mul-result
overflow_mul-result c = omega (arith, few_kept c.args.self.now (ap comes_again (sym c.recurrence.ensures ∙ c.in-Later.is)))

pub overflow_add-result : goal.overflow_add-result
overflow_add-result c = omega (arith, few_kept c.args.self.now (ap comes_again (sym c.recurrence.ensures ∙ c.in-Later.is)))

pub overflow_sub-result-in-Always : goal.overflow_sub-result-in-Always
overflow_sub-result-in-Always c = omega (arith, starts_first c.args.self.now (ap comes_again (sym c.recurrence.ensures ∙ c.in-Always.is)))

pub overflow_mul-result-in-Always : goal.overflow_mul-result-in-Always
overflow_mul-result-in-Always c = omega (arith, few_kept c.args.self.now (ap comes_again (sym c.recurrence.ensures ∙ c.in-Always.is)))
