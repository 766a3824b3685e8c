use Rattle.std.proofs.Common.{◌≡◌, ◌↔◌, ℤ, ◌≤◌, length, IsTrue, sym, ap, ◌∙◌, subst}
use Rattle.civil_base.specs.Ranges.{IsOffset}
use Rattle.zone_spans.specs.Schedules.{instants, total_at}
use Rattle.tz_lookup.{specs.{Sets.{schedule_of, shifts_of, IsAccepted, IsOrderlyZone}, declared.set.FixedTimespanSet.{FixedTimespanSet}, Compact.{set_seen}, Kinds.{kinds_of}, YearCounts.{AreYearCounts}}, proofs.BuildLemmas.{ended}}
use Rattle.tz_lookup.proofs.compact_set.CompactSet.of.Goals as goal

the_set : (c : goal.After-is_orderly-orderly)
    → set_seen c.in_ok-name.name c.in_ok-kinds.field-0.kinds c.in_ok-kinds.field-0.first c.in_ok-kinds.field-0.times c.in_ok-kinds.field-0.numbers ≡ c.args.set.now
the_set c =
    ended c.args.set.now c.in_ok-name.name c.in_ok-kinds.field-0.kinds c.in_ok-kinds.field-0.first c.in_ok-kinds.field-0.times c.in_ok-kinds.field-0.numbers
    (c.in_ok-name.ensures ∙ c.as_str.ensures) c.in_ok-kinds.ensures

pub invariant_of-result-clause-have_kinds : goal.invariant_of-result-clause-have_kinds
invariant_of-result-clause-have_kinds c = c.in_ok-kinds.ensures.have

pub invariant_of-result-clause-distinct : goal.invariant_of-result-clause-distinct
invariant_of-result-clause-distinct c = c.in_ok-kinds.ensures.distinct ∙ ap kinds_of (sym (the_set c))

pub invariant_of-result-clause-counted : goal.invariant_of-result-clause-counted
invariant_of-result-clause-counted c =
    subst (λ (set : FixedTimespanSet). AreYearCounts (shifts_of set) c.in_ok-years.years) (sym (the_set c)) c.in_ok-years.ensures

pub invariant_of-result-clause-accepted : goal.invariant_of-result-clause-accepted
invariant_of-result-clause-accepted c =
    subst (λ (set : FixedTimespanSet). IsAccepted (schedule_of set)) (c.requires ∙ sym (the_set c)) c.args.zone.now.accepted

pub invariant_of-result-clause-marked : goal.invariant_of-result-clause-marked
invariant_of-result-clause-marked c =
    subst (λ (set : FixedTimespanSet). IsTrue c.is_orderly-orderly.result ↔ IsOrderlyZone (schedule_of set)) (c.requires ∙ sym (the_set c))
    c.is_orderly-orderly.ensures

pub invariant_of-result-clause-range : goal.invariant_of-result-clause-range
invariant_of-result-clause-range c =
    subst (λ (set : FixedTimespanSet). (t : ℤ) → IsOffset (total_at (schedule_of set) t)) (c.requires ∙ sym (the_set c)) c.args.zone.now.range

pub invariant_of-result-clause-two : goal.invariant_of-result-clause-two
invariant_of-result-clause-two c =
    subst (λ (set : FixedTimespanSet). IsOrderlyZone (schedule_of set) → (time : ℤ) → length (instants (total_at (schedule_of set)) time) ≤ 2)
    (c.requires ∙ sym (the_set c)) c.args.zone.now.two

pub returns : goal.returns
returns c =
    ended c.args.set.now c.in_ok-name.name c.in_ok-kinds.field-0.kinds c.in_ok-kinds.field-0.first c.in_ok-kinds.field-0.times c.in_ok-kinds.field-0.numbers
    (c.in_ok-name.ensures ∙ c.as_str.ensures) c.in_ok-kinds.ensures
