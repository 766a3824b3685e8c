-- What is kept of a zone, handed on to who asks it.
use Rattle.std.proofs.Common.{◌≡◌, ℤ, ◌≤◌, length, subst}
use Rattle.civil_base.specs.Ranges.{IsOffset}
use Rattle.zone_spans.specs.Schedules.{instants}
use Rattle.tz_lookup.specs.{Sets.{IsOrderlyZone, schedule_of}, declared.set.FixedTimespanSet.{FixedTimespanSet}}
use Rattle.tz_ever.specs.{Recurrences.{RepeatsAs, zone_total}, ZoneShown.{recurrence_of, zone_in_range, zone_set_of}, declared.recurrence.Recurrence.{Recurrence}, declared.zone_set.ZoneSet.{ZoneSet}}

pub record IsSound (recurrence : Recurrence) (set : FixedTimespanSet) : Type 0 where
  pub repeats : RepeatsAs recurrence set
  pub range : (t : ℤ) → IsOffset (zone_total recurrence set t)
  pub two : IsOrderlyZone (schedule_of set) → (time : ℤ) → length (instants (zone_total recurrence set) time) ≤ 2

pub sound_of : (zone : ZoneSet) → IsSound (recurrence_of zone) (zone_set_of zone)
sound_of zone = record { repeats = zone.repeats; range = zone_in_range zone; two = zone.two }

pub is_sound : (recurrence other : Recurrence) (set another : FixedTimespanSet) → recurrence ≡ other → set ≡ another → IsSound recurrence set
    → IsSound other another
is_sound recurrence other set another r s sound =
    subst (λ z. IsSound other z) s (subst (λ z. IsSound z set) r sound)
