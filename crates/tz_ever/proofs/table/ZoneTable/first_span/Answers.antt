use Rattle.std.proofs.Common.{arith, ap, sym, ◌∙◌}
use Rattle.tz_ever.specs.{Recurrences.{comes_again}, Unrolled.{seam_second}, ZoneShown.{zone_set_of}}
use Rattle.tz_ever.specs.declared.recurrence.Recurrence.TheVariants.{Never, Later, Always}
use Rattle.tz_lookup.specs.Sets.{span_in}
use Rattle.tz_ever.proofs.TableLemmas.{before_length, first_is, span_at_start}
use Rattle.tz_ever.proofs.table.ZoneTable.first_span.Goals as goal

pub returns-in-Never-clause-span : goal.returns-in-Never-clause-span
returns-in-Never-clause-span c = first_is c.args.self.now Never (sym c.recurrence.ensures ∙ c.in-Never.is)

pub returns-in-Later-clause-span : goal.returns-in-Later-clause-span
returns-in-Later-clause-span c = first_is c.args.self.now Later (sym c.recurrence.ensures ∙ c.in-Later.is)

pub returns-in-Always-clause-span : goal.returns-in-Always-clause-span
returns-in-Always-clause-span c =
    let table = c.args.self.now in
    let set = zone_set_of table.set.now in
    let always = sym c.recurrence.ensures ∙ c.in-Always.is in
    ap (span_in set) (table.starts (ap comes_again always)) ∙ span_at_start set table.set.now.accepted ∙ first_is table Always always

pub returns-in-Always-clause-within : goal.returns-in-Always-clause-within
returns-in-Always-clause-within c =
    let table = c.args.self.now in
    let set = zone_set_of table.set.now in
    let always = sym c.recurrence.ensures ∙ c.in-Always.is in
    omega (arith, table.starts (ap comes_again always), before_length seam_second set.others)
