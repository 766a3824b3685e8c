use Rattle.std.proofs.{Common.{neg_ℤ, pos, ◌≤ℤ◌, ◌∙◌, ap, sym, subst, w64}, lemmas.Int.{to_z-of_z}}
use Rattle.zone_spans.specs.Schedules.{total_at}
use Rattle.tz_lookup.specs.{CompactShown.{seen}, Stretches.{IsStretch, stretch_begin, stretch_end}, Sets.{schedule_of}, declared.set.FixedTimespanSet.{FixedTimespanSet}}
use Rattle.tz_ever.specs.{Ever.{ever_total}, RecurrenceLaws.{later_total, never_total}, Recurrences.{zone_total}, Stretches.{ever_begin, ever_end, zone_begin, zone_end}, ZoneShown.{recurrence_of, zone_set_of}}
use Rattle.tz_ever.specs.declared.recurrence.Recurrence.TheVariants.{Always}
use Rattle.tz_ever.proofs.stretch.zone_stretch.Goals as goal

pub returns-in-Never-clause-is : goal.returns-in-Never-clause-is
returns-in-Never-clause-is c =
    let set = zone_set_of c.args.zone.now in
    let found = c.stretch_of.result in
    subst (λ f. IsStretch f c.args.second found) (never_total (recurrence_of c.args.zone.now) set (sym c.recurrence.ensures ∙ c.in-Never.is))
    (subst (λ (s : FixedTimespanSet). IsStretch (total_at (schedule_of s)) c.args.second found) c.compact.ensures.seen
    (subst (λ t. IsStretch (total_at (schedule_of (seen c.compact.result.now))) t found) (to_z-of_z w64 _ c.ranges.second) c.stretch_of.ensures.is))

pub returns-in-Never-clause-from : goal.returns-in-Never-clause-from
returns-in-Never-clause-from c =
    let set = zone_set_of c.args.zone.now in
    let second = to_z-of_z w64 _ c.ranges.second in
    c.stretch_of.ensures.from ∙ (λ i. stretch_begin (schedule_of (c.compact.ensures.seen i)) (second i))
    ∙ ap (λ r. zone_begin r set c.args.second) (sym c.in-Never.is ∙ c.recurrence.ensures)

pub returns-in-Never-clause-until : goal.returns-in-Never-clause-until
returns-in-Never-clause-until c =
    let set = zone_set_of c.args.zone.now in
    let second = to_z-of_z w64 _ c.ranges.second in
    c.stretch_of.ensures.until ∙ (λ i. stretch_end (schedule_of (c.compact.ensures.seen i)) (second i))
    ∙ ap (λ r. zone_end r set c.args.second) (sym c.in-Never.is ∙ c.recurrence.ensures)

pub returns-in-Later-clause-is : goal.returns-in-Later-clause-is
returns-in-Later-clause-is c =
    let set = zone_set_of c.args.zone.now in
    let found = c.ever_stretch.result in
    subst (λ f. IsStretch f c.args.second found) (later_total (recurrence_of c.args.zone.now) set (sym c.recurrence.ensures ∙ c.in-Later.is))
    (subst (λ t. IsStretch (ever_total set) t found) (to_z-of_z w64 _ c.ranges.second) c.ever_stretch.ensures.is)

pub returns-in-Later-clause-from : goal.returns-in-Later-clause-from
returns-in-Later-clause-from c =
    let set = zone_set_of c.args.zone.now in
    c.ever_stretch.ensures.from ∙ ap (ever_begin set) (to_z-of_z w64 _ c.ranges.second)
    ∙ ap (λ r. zone_begin r set c.args.second) (sym c.in-Later.is ∙ c.recurrence.ensures)

pub returns-in-Later-clause-until : goal.returns-in-Later-clause-until
returns-in-Later-clause-until c =
    let set = zone_set_of c.args.zone.now in
    c.ever_stretch.ensures.until ∙ ap (ever_end set) (to_z-of_z w64 _ c.ranges.second)
    ∙ ap (λ r. zone_end r set c.args.second) (sym c.in-Later.is ∙ c.recurrence.ensures)

pub always_stretch-requires-clause-early : goal.always_stretch-requires-clause-early
always_stretch-requires-clause-early c =
    subst (λ t. neg_ℤ (pos 387140688000) ≤ℤ t) (sym (to_z-of_z w64 _ c.ranges.second)) (c.requires.early (sym c.recurrence.ensures ∙ c.in-Always.is))

pub returns-in-Always-clause-is : goal.returns-in-Always-clause-is
returns-in-Always-clause-is c =
    let set = zone_set_of c.args.zone.now in
    let found = c.always_stretch.result in
    subst (λ f. IsStretch f c.args.second found) (ap (λ r. zone_total r set) (sym c.in-Always.is ∙ c.recurrence.ensures))
    (subst (λ t. IsStretch (zone_total Always set) t found) (to_z-of_z w64 _ c.ranges.second) c.always_stretch.ensures.is)

pub returns-in-Always-clause-from : goal.returns-in-Always-clause-from
returns-in-Always-clause-from c =
    let set = zone_set_of c.args.zone.now in
    c.always_stretch.ensures.from ∙ ap (zone_begin Always set) (to_z-of_z w64 _ c.ranges.second)
    ∙ ap (λ r. zone_begin r set c.args.second) (sym c.in-Always.is ∙ c.recurrence.ensures)

pub returns-in-Always-clause-until : goal.returns-in-Always-clause-until
returns-in-Always-clause-until c =
    let set = zone_set_of c.args.zone.now in
    c.always_stretch.ensures.until ∙ ap (zone_end Always set) (to_z-of_z w64 _ c.ranges.second)
    ∙ ap (λ r. zone_end r set c.args.second) (sym c.in-Always.is ∙ c.recurrence.ensures)
