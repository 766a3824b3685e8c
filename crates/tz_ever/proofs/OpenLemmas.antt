-- What a name finds for ever, step by step.
use Rattle.std.{proofs.Common.{◌≡◌, ℕ, ◌*ℤ◌, ◌<ℤ◌, List, Option, Some, None, option_map, Result, Ok, Err, Bool, true, false, ℤ, pos, IsTrue, refl, sym, ap, subst, ◌∙◌, arith}, specs.FinMap.{get}, specs.List.{list_all}}
use Rattle.basics.specs.SignedLaws.{signed}
use Rattle.zone_table.specs.{Resolved.{resolved_in}, declared.table.Table.{Table}, declared.zone.ZoneInfo.{ZoneInfo}}
use Rattle.zone_spans.specs.{Bounds.{is_bounded_line}, Compiled.{compiled, compiled_over}, GoesOn.{GoesOn, TellsGoing, goes_on}, Lines.{Rulesets, zone_lines}, Schedules.{is_in_offset_range, total_at, totals_of}, declared.fault.SpanFault.{SpanFault}}
use Rattle.zone_spans.specs.declared.span.FixedTimespan.{FixedTimespan}
use Rattle.zone_spans.specs.declared.span.FixedTimespanSet as spans
use Rattle.tz_ever.specs.{AnyYear.{is_before_cycle, span_for_ever, span_told, total_for_ever}, InForce.{span_at}, Ever.{ever_span, ever_total}, ForEver.{IsForEver, ever_years}}
use Rattle.tz_ever.specs.Opens.{DoesNotGoOn, IsEverFault, IsFoundForEver, IsGoing, IsLater, IsZoneToday, fault_later}
use Rattle.tz_ever.proofs.ForEverLemmas.{EnoughLaw, are_enough}
use Rattle.tz_lookup.specs.{Compiles.{IsCompiledAs, IsZoneFault, compiled_in, compiled_in_over, spans_of}, Sets.{schedule_of}, declared.compile.ZoneFault.{ZoneFault}, declared.set.FixedTimespanSet.{FixedTimespanSet}}
use Rattle.tz_lookup.specs.declared.compile.ZoneFault.TheVariants as zone_fault

same_some : {X : Type 0} (a b : X) → Some a ≡ Some b → a ≡ b
same_some a b e = cc

-- ---- today
with_lines : {X : Type 0} (f : List ZoneInfo → X) (found : Option (List ZoneInfo)) (x : X) → option_map f found ≡ Some x
    → (infos : List ZoneInfo) × (found ≡ Some infos) × (f infos ≡ x)
with_lines f None x is = absurd cc
with_lines f (Some infos) x is = (infos, refl, same_some (f infos) x is)

pub zone_today : (table : Table) (name : List ℕ) (set : FixedTimespanSet) → IsCompiledAs set (compiled_in table name)
    → IsTrue (is_in_offset_range (schedule_of set)) → IsZoneToday table name
unfolding totals_of
zone_today table name set is range =
    let lines = with_lines (compiled (get table.rulesets)) (resolved_in table name) (Ok (spans_of set)) is in
    record { infos = lines.0; is_found = lines.1; today = spans_of set; compiles = lines.2; range = range }

-- ---- whether it goes on
found_in : {X : Type 0} (f : List ZoneInfo → X) (found : Option (List ZoneInfo)) (infos : List ZoneInfo) (x : X) → found ≡ Some infos
    → option_map f found ≡ Some x → f infos ≡ x
found_in f found infos x is h = same_some (f infos) x (ap (option_map f) (sym is) ∙ h)

pub told_as : (table : Table) (name : List ℕ) (found told : Option Bool) → found ≡ told → TellsGoing (Ok found) (get table.rulesets) (resolved_in table name)
    → TellsGoing (Ok told) (get table.rulesets) (resolved_in table name)
told_as table name found told is tells = subst (λ (o : Option Bool). TellsGoing (Ok o) (get table.rulesets) (resolved_in table name)) is tells

pub going_of : (table : Table) (name : List ℕ) (zone : IsZoneToday table name)
    → TellsGoing (Ok (Some true)) (get table.rulesets) (resolved_in table name)
    → ((infos : List ZoneInfo) → resolved_in table name ≡ Some infos → list_all is_bounded_line (zone_lines (get table.rulesets) infos) ≡ true)
    → IsGoing table name
going_of table name zone told bounded = record {
  zone = zone;
  goes_on = found_in (λ infos. goes_on (zone_lines (get table.rulesets) infos)) (resolved_in table name) zone.infos true zone.is_found told;
  bounded = bounded zone.infos zone.is_found;
}

pub ending_of : (table : Table) (name : List ℕ) (zone : IsZoneToday table name)
    → TellsGoing (Ok (Some false)) (get table.rulesets) (resolved_in table name) → DoesNotGoOn table name
ending_of table name zone told = record {
  zone = zone;
  ends = found_in (λ infos. goes_on (zone_lines (get table.rulesets) infos)) (resolved_in table name) zone.infos false zone.is_found told;
}

-- ---- over 704 years
abbrev pub BeforeLaw : Type 0
BeforeLaw = (rulesets : Rulesets) (infos : List ZoneInfo) (set : spans.FixedTimespanSet) (t : ℤ) → GoesOn rulesets infos
    → compiled rulesets infos ≡ Ok set → list_all is_bounded_line (zone_lines rulesets infos) ≡ true
    → t <ℤ (pos 4099444800 *ℤ pos 1000000000) → is_before_cycle (zone_lines rulesets infos) t ≡ true

abbrev pub AsBeforeLaw : Type 0
AsBeforeLaw = (rulesets : Rulesets) (infos : List ZoneInfo) (set : spans.FixedTimespanSet) (t : ℤ) → GoesOn rulesets infos
    → compiled rulesets infos ≡ Ok set → is_before_cycle (zone_lines rulesets infos) t ≡ true
    → (total_for_ever rulesets infos t ≡ total_at (totals_of set) t)
    × (span_for_ever rulesets infos t ≡ Some (span_at set t))

abbrev pub ShownLaw : Type 0
ShownLaw = (rulesets : Rulesets) (infos : List ZoneInfo) (set : FixedTimespanSet) (t : ℤ) → IsForEver rulesets infos set
    → (ever_total set t ≡ total_for_ever rulesets infos t) × (Some (ever_span set t) ≡ span_for_ever rulesets infos t)

-- a set that tells a span is one
told_set : (due : Result spans.FixedTimespanSet SpanFault) (t : ℤ) (span : FixedTimespan) → span_told due t ≡ Some span
    → (set : spans.FixedTimespanSet) × (due ≡ Ok set)
told_set (Ok set) t span is = (set, refl)
told_set (Err fault) t span is = absurd cc

-- at 1970-01-01 00:00:00 UTC it shows what it shows today, so there is a set
has_set : BeforeLaw → AsBeforeLaw → EnoughLaw → (table : Table) (name : List ℕ) (going : IsGoing table name)
    → (set : spans.FixedTimespanSet) × (compiled_over ever_years (get table.rulesets) going.zone.infos ≡ Ok set)
has_set before as_before enough table name going =
    let zone = going.zone in
    let rulesets = get table.rulesets in
    let early = before rulesets zone.infos zone.today (pos 0) going.goes_on zone.compiles going.bounded (omega (arith, signed)) in
    let shown = as_before rulesets zone.infos zone.today (pos 0) going.goes_on zone.compiles early in
    let more = enough rulesets zone.infos zone.today ever_years (pos 0) going.goes_on zone.compiles going.bounded zone.range (omega arith)
    (are_enough (pos 0) (omega (arith, signed))) in
    told_set (compiled_over ever_years rulesets zone.infos) (pos 0) (span_at zone.today (pos 0)) (sym more.1 ∙ shown.1)

pub later_is : BeforeLaw → AsBeforeLaw → EnoughLaw → (table : Table) (name : List ℕ) (going : IsGoing table name) (fault : ZoneFault)
    → IsZoneFault (compiled_in_over ever_years table name) fault → IsLater fault
later_is before as_before enough table name going zone_fault.UnknownZone is =
    let found = going.zone.is_found in
    let none : option_map (compiled_over ever_years (get table.rulesets)) (Some going.zone.infos) ≡ None =
    ap (option_map (compiled_over ever_years (get table.rulesets))) (sym found) ∙ is in
    absurd cc
later_is before as_before enough table name going (zone_fault.Schedule fault) is =
    let set = has_set before as_before enough table name going in
    let err = found_in (compiled_over ever_years (get table.rulesets)) (resolved_in table name) going.zone.infos (Err fault) going.zone.is_found is.0 in
    let both : Ok set.0 ≡ Err fault = sym set.1 ∙ err in
    absurd cc
later_is before as_before enough table name going zone_fault.OffsetRange is = tt
later_is before as_before enough table name going zone_fault.NoMemory is = tt

pub later_due : (table : Table) (name : List ℕ) (going : IsGoing table name) (fault : ZoneFault)
    → IsZoneFault (compiled_in_over ever_years table name) fault → IsLater fault → IsEverFault table name (fault_later fault)
later_due table name going zone_fault.UnknownZone is later = absurd later
later_due table name going (zone_fault.Schedule fault) is later = absurd later
later_due table name going zone_fault.OffsetRange is later = record { zone = going; far = is }
later_due table name going zone_fault.NoMemory is later = tt

pub found_for_ever : ShownLaw → (table : Table) (name : List ℕ) (set : FixedTimespanSet) → IsGoing table name → set.name ≡ name
    → IsCompiledAs set (compiled_in_over ever_years table name) → IsFoundForEver table name set
found_for_ever shown table name set going named is =
    let zone = going.zone in
    let rulesets = get table.rulesets in
    let ever : IsForEver rulesets zone.infos set =
    record {
      goes_on = going.goes_on;
      bounded = going.bounded;
      today = zone.today;
      compiles = zone.compiles;
      range = zone.range;
      set_is = found_in (compiled_over ever_years rulesets) (resolved_in table name) zone.infos (Ok (spans_of set)) zone.is_found is;
    } in
    record {
      infos = zone.infos;
      is_found = zone.is_found;
      named = named;
      zone = ever;
      total = λ t. (shown rulesets zone.infos set t ever).0;
      span = λ t. (shown rulesets zone.infos set t ever).1;
    }

-- ---- as today
pub shown_today : BeforeLaw → AsBeforeLaw → (table : Table) (name : List ℕ) (set ever : FixedTimespanSet) (t : ℤ)
    → IsCompiledAs set (compiled_in table name) → IsFoundForEver table name ever → t <ℤ pos 4099444800000000000
    → (ever_total ever t ≡ total_at (schedule_of set) t) × (ever_span ever t ≡ span_at (spans_of set) t)
unfolding totals_of
shown_today before as_before table name set ever t is found early =
    let rulesets = get table.rulesets in
    let compiles = found_in (compiled rulesets) (resolved_in table name) found.infos (Ok (spans_of set)) found.is_found is in
    let shown = as_before rulesets found.infos (spans_of set) t found.zone.goes_on compiles
    (before rulesets found.infos (spans_of set) t found.zone.goes_on compiles found.zone.bounded (omega (arith, signed, early))) in
    (found.total t ∙ shown.0, same_some _ _ (found.span t ∙ shown.1))
