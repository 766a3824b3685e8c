-- What a zone whose changes come again never, or later, shows.
use Rattle.std.proofs.Common.{◌≡◌, refl, sym, ap, ◌∙◌}
use Rattle.zone_spans.specs.Schedules.{total_at}
use Rattle.tz_ever.specs.{Ever.{ever_total}, Recurrences.{turned, zone_total}}
use Rattle.tz_ever.specs.declared.{recurrence.Recurrence.{Recurrence}, recurrence.Recurrence.TheVariants.{Never, Later}}
use Rattle.tz_lookup.specs.{Sets.{schedule_of}, declared.set.FixedTimespanSet.{FixedTimespanSet}}

is_never : (set : FixedTimespanSet) → total_at (schedule_of set) ≡ zone_total Never set
unfolding zone_total turned
is_never set = refl

is_later : (set : FixedTimespanSet) → ever_total set ≡ zone_total Later set
unfolding zone_total turned ever_total
is_later set = refl

pub never_total : (recurrence : Recurrence) (set : FixedTimespanSet) → recurrence ≡ Never → total_at (schedule_of set) ≡ zone_total recurrence set
never_total recurrence set is = is_never set ∙ ap (λ r. zone_total r set) (sym is)

pub later_total : (recurrence : Recurrence) (set : FixedTimespanSet) → recurrence ≡ Later → ever_total set ≡ zone_total recurrence set
later_total recurrence set is = is_later set ∙ ap (λ r. zone_total r set) (sym is)
