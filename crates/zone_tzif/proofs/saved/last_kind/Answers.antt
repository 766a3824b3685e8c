use Rattle.std.proofs.Common.{◌≡◌, sym, ap, ◌∙◌, subst}
use Rattle.civil_base.specs.Ranges.{IsOffset}
use Rattle.zone_tzif.{specs.Agreement.{cycle_begin}, specs.Causes.{kind_in}, specs.declared.convert.Saves.TheVariants.{Any}, proofs.KindLemmas.{kind_cut}, proofs.SavedLemmas.{kind_of_parts, total_is}}
use Rattle.zone_tzif.proofs.saved.last_kind.Goals as goal

pub returns-clause-kind : goal.returns-clause-kind
returns-clause-kind g c =
    let set = g.S.SpanTable.seen c.args.set.now in
    let k = c.count_until-span.result in
    c.new.ensures
    ∙ kind_of_parts _ _ _ (kind_in Any set k) (c.offset_of-offset.ensures ∙ total_is set k c.count_until-span.ensures.within) c.kind_at-kind.ensures
    ∙ sym (kind_cut set k cycle_begin c.count_until-span.ensures.cut)

pub returns-clause-offset : goal.returns-clause-offset
returns-clause-offset g c =
    let set = g.S.SpanTable.seen c.args.set.now in
    let k = c.count_until-span.result in
    subst IsOffset
    (c.offset_of-offset.ensures ∙ total_is set k c.count_until-span.ensures.within
    ∙ sym (ap (λ kind. kind.utoff) (kind_cut set k cycle_begin c.count_until-span.ensures.cut)))
    (subst IsOffset c.whole_seconds-in_range.ensures.value c.whole_seconds-in_range.ensures.bound)
