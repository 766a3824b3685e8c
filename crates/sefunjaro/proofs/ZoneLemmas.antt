-- A zone that goes on shows what was compiled, where the law of such zones says so.
use Rattle.std.{proofs.Common.{◌≡◌, ◌<ℤ◌, ℕ, ℤ, pos, List, refl, sym, subst}, specs.Prelude.{Option, Some, None}}
use Rattle.zone_spans.specs.Schedules.{total_at}
use Rattle.zone_table.specs.declared.table.Table.{Table}
use Rattle.tz_ever.specs.{Ever.{ever_span, ever_total}, InForce.{span_at}, Opens.{IsFoundForEver}, Recurrences.{turned, zone_span, zone_total}, ZoneShown.{recurrence_of, zone_set_of}, declared.zone_set.ZoneSet.{ZoneSet}}
use Rattle.tz_ever.specs.declared.{recurrence.Recurrence.{Recurrence}}
use Rattle.tz_lookup.specs.{Compiles.{IsCompiledAs, compiled_in, spans_of}, Sets.{schedule_of}, declared.set.FixedTimespanSet.{FixedTimespanSet}, declared.compact_set.CompactSet.{CompactSet}}
use Rattle.sefunjaro.specs.{Zones.{ever_in, ever_with, recurrence_with, set_in, set_with, GoesOnAs, IsAsCompiled}, declared.zone.OpenZone.{OpenZone}}

abbrev pub TodayLaw : Type 0
TodayLaw = (table : Table) (name : List ℕ) (set ever : FixedTimespanSet) (t : ℤ) → IsCompiledAs set (compiled_in table name)
    → IsFoundForEver table name ever → t <ℤ pos 4099444800000000000
    → (ever_total ever t ≡ total_at (schedule_of set) t) × (ever_span ever t ≡ span_at (spans_of set) t)

-- both at an instant
abbrev Same : Recurrence → FixedTimespanSet → FixedTimespanSet → ℤ → Type 0
Same recurrence all set t = (zone_total recurrence all t ≡ total_at (schedule_of set) t) × (zone_span recurrence all t ≡ span_at (spans_of set) t)

shows : TodayLaw → (table : Table) (name : List ℕ) (zone : ZoneSet) (plain : Option CompactSet) (t : ℤ)
    → IsCompiledAs (set_with zone plain) (compiled_in table name) → GoesOnAs table name (ever_with zone plain) → t <ℤ pos 4099444800000000000
    → Same (recurrence_with (ever_with zone plain)) (zone_set_of zone) (set_with zone plain) t
unfolding zone_total zone_span turned ever_total ever_span
shows law table name zone None t compiled goes_on early = (refl, refl)
shows law table name zone (Some set) t compiled goes_on early = law table name (set_with zone (Some set)) (zone_set_of zone) t compiled goes_on early

pub as_compiled : TodayLaw → (table : Table) (name : List ℕ) (set : FixedTimespanSet) (found : Option ZoneSet) (zone : OpenZone)
    → set_in zone ≡ set → ever_in zone ≡ found → recurrence_of zone.zone ≡ recurrence_with (ever_in zone)
    → IsCompiledAs set (compiled_in table name) → GoesOnAs table name found → IsAsCompiled zone
as_compiled law table name set found zone is e recurs compiled goes_on = λ t early.
    let same = subst (λ r. Same r (zone_set_of zone.zone) (set_in zone) t) (sym recurs)
    (shows law table name zone.zone zone.to_2099 t (subst (λ s. IsCompiledAs s (compiled_in table name)) (sym is) compiled)
    (subst (GoesOnAs table name) (sym e) goes_on) early) in
    record { total = same.0; span = same.1 }
