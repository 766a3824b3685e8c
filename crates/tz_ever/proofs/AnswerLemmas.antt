-- What a set answers for a date-time that is turned to the years that are kept is what the zone shows.
use Rattle.std.proofs.Common.{◌≡◌, List, [], ◌∷◌, map, take, length, ◌≤◌, ℤ, pos, int_lt, sym, ap, ◌∙◌, subst}
use Rattle.civil_base.specs.{DateTimes.{instant, local_of, offset_of}, Instants.{instant_at}, Ranges.{IsOffset}, declared.offset_date_time.OffsetDateTime.{OffsetDateTime}}
use Rattle.zone_spans.specs.Schedules.{instants, total_at}
use Rattle.tz_lookup.specs.{Answers.{EachOf, listed}, Cursors.{cursor_left}, InForce.{GivesAt, all_in_force, shown_of, totals_at}, Sets.{schedule_of}, Zones.{IsGivenFor, span_shown, total_shown}, declared.time_zone.SpanCursor.{SpanCursor}, declared.{time_zone.OffsetResult.{OffsetResult}, time_zone.OffsetResult.TheVariants.{Some, Ambiguous, None}, set.FixedTimespanSet.{FixedTimespanSet}, tz.TzOffset.{TzOffset}}}
use Rattle.tz_ever.{specs.Ever.{ever_left}, specs.Recurrences.{RepeatsAs, ZoneGives, turned, zone_total}, specs.declared.recurrence.Recurrence.{Recurrence}, proofs.NearLemmas.{turned_gives, turned_total}, proofs.TotalLemmas.{AgreeNear, all_moved, same_count, same_totals}}

agree : (recurrence : Recurrence) (set : FixedTimespanSet) (x : ℤ) → RepeatsAs recurrence set
    → AgreeNear (zone_total recurrence set) x (total_at (schedule_of set)) (turned recurrence x)
agree recurrence set x repeats = λ o h. sym (turned_total recurrence set x o repeats h)

-- no more than two
pub few_instants : (recurrence : Recurrence) (set : FixedTimespanSet) (x : ℤ) → RepeatsAs recurrence set → length (instants (total_at (schedule_of set)) (turned recurrence x)) ≤ 2
    → length (instants (zone_total recurrence set) x) ≤ 2
few_instants recurrence set x repeats two =
    subst (λ n. n ≤ 2) (sym (same_count (zone_total recurrence set) x (total_at (schedule_of set)) (turned recurrence x) (agree recurrence set x repeats))) two

-- ---- an instant
instant_turned : (recurrence : Recurrence) (date back : OffsetDateTime) → local_of back ≡ turned recurrence (local_of date) → offset_of back ≡ offset_of date
    → instant back ≡ instant_at (turned recurrence (local_of date)) (offset_of date)
unfolding instant
instant_turned recurrence date back local offset = λ i. instant_at (local i) (offset i)

pub total_turned : (recurrence : Recurrence) (set : FixedTimespanSet) (date back : OffsetDateTime) → RepeatsAs recurrence set → IsOffset (offset_of date)
    → local_of back ≡ turned recurrence (local_of date) → offset_of back ≡ offset_of date
    → total_at (schedule_of set) (instant back) ≡ zone_total recurrence set (instant date)
unfolding instant
total_turned recurrence set date back repeats range local offset =
    ap (total_at (schedule_of set)) (instant_turned recurrence date back local offset) ∙ turned_total recurrence set (local_of date) (offset_of date) repeats range

pub gives_turned : (recurrence : Recurrence) (set : FixedTimespanSet) (date back : OffsetDateTime) (offset : TzOffset) → RepeatsAs recurrence set → IsOffset (offset_of date)
    → local_of back ≡ turned recurrence (local_of date) → offset_of back ≡ offset_of date
    → GivesAt set (instant back) (span_shown offset).name (int_lt (pos 0) (span_shown offset).dst_offset)
    → ZoneGives recurrence set (instant date) (span_shown offset).name (int_lt (pos 0) (span_shown offset).dst_offset)
unfolding instant
gives_turned recurrence set date back offset repeats range local same gives =
    turned_gives recurrence set (local_of date) (offset_of date) (span_shown offset).name (int_lt (pos 0) (span_shown offset).dst_offset) repeats range
    (subst (λ t. GivesAt set t (span_shown offset).name (int_lt (pos 0) (span_shown offset).dst_offset)) (instant_turned recurrence date back local same) gives)

-- ---- a local time
abbrev AreOffsets : List ℤ → Type 0
AreOffsets [] = Unit {0}
AreOffsets (o ∷ os) = IsOffset o × AreOffsets os

totals_in_range : (total : ℤ → ℤ) (ts : List ℤ) → ((t : ℤ) → IsOffset (total t)) → AreOffsets (map total ts)
totals_in_range total [] range = tt
totals_in_range total (t ∷ ts) range = (range t, totals_in_range total ts range)

two_in_range : (os : List ℤ) → AreOffsets os → AreOffsets (take 2 os)
two_in_range [] all = tt
two_in_range (o ∷ []) all = (all.0, tt)
two_in_range (o ∷ p ∷ os) all = (all.0, (all.1.0, tt))

each_turned : (recurrence : Recurrence) (set : FixedTimespanSet) (x : ℤ) (offsets : OffsetResult TzOffset) → RepeatsAs recurrence set → AreOffsets (map total_shown (listed offsets))
    → EachOf (IsGivenFor set (turned recurrence x)) offsets
    → EachOf (λ offset. ZoneGives recurrence set (instant_at x (total_shown offset)) (span_shown offset).name (int_lt (pos 0) (span_shown offset).dst_offset)) offsets
each_turned recurrence set x (Some a) repeats range gives = turned_gives recurrence set x (total_shown a) _ _ repeats range.0 gives
each_turned recurrence set x (Ambiguous a b) repeats range gives =
    (turned_gives recurrence set x (total_shown a) _ _ repeats range.0 gives.0, turned_gives recurrence set x (total_shown b) _ _ repeats range.1.0 gives.1)
each_turned recurrence set x None repeats range gives = tt

pub names_turned : (recurrence : Recurrence) (set : FixedTimespanSet) (x y : ℤ) (offsets : OffsetResult TzOffset) → RepeatsAs recurrence set
    → ((t : ℤ) → IsOffset (zone_total recurrence set t)) → y ≡ turned recurrence x
    → map total_shown (listed offsets) ≡ take 2 (totals_at (zone_total recurrence set) x) → EachOf (IsGivenFor set y) offsets
    → EachOf (λ offset. ZoneGives recurrence set (instant_at x (total_shown offset)) (span_shown offset).name (int_lt (pos 0) (span_shown offset).dst_offset)) offsets
unfolding totals_at
names_turned recurrence set x y offsets repeats range back totals gives =
    let all = two_in_range (totals_at (zone_total recurrence set) x) (totals_in_range (zone_total recurrence set) (instants (zone_total recurrence set) x) range) in
    each_turned recurrence set x offsets repeats (subst AreOffsets (sym totals) all) (subst (λ z. EachOf (IsGivenFor set z) offsets) back gives)

pub totals_turned : (recurrence : Recurrence) (set : FixedTimespanSet) (x y : ℤ) (os : List ℤ) → RepeatsAs recurrence set → y ≡ turned recurrence x
    → os ≡ take 2 (totals_at (total_at (schedule_of set)) y) → os ≡ take 2 (totals_at (zone_total recurrence set) x)
totals_turned recurrence set x y os repeats back totals =
    totals ∙ ap (λ z. take 2 (totals_at (total_at (schedule_of set)) z)) back
    ∙ ap (take 2) (sym (same_totals (zone_total recurrence set) x (total_at (schedule_of set)) (turned recurrence x) (agree recurrence set x repeats)))

pub all_turned : (recurrence : Recurrence) (set : FixedTimespanSet) (x y : ℤ) (found : SpanCursor) → RepeatsAs recurrence set → y ≡ turned recurrence x
    → map shown_of (cursor_left set found) ≡ all_in_force (total_at (schedule_of set)) y
    → map shown_of (ever_left set x found) ≡ all_in_force (zone_total recurrence set) x
unfolding ever_left
all_turned recurrence set x y found repeats back all =
    all_moved (zone_total recurrence set) x (total_at (schedule_of set)) (turned recurrence x) (cursor_left set found) (agree recurrence set x repeats)
    (all ∙ ap (all_in_force (total_at (schedule_of set))) back)
