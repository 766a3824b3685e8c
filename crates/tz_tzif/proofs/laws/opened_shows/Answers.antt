use Rattle.std.proofs.{Common.{◌≡◌, ◌∙◌, ℕ, ℤ, List, ap, refl, sym, arith}, lemmas.Int.{ints}}
use Rattle.civil_base.specs.{Instants.{instant_at, seconds_of}, RangeLaws.{offset_greatest, offset_least, years_begin, years_end}, Ranges.{IsInYears, IsOffset}}
use Rattle.zone_spans.specs.{Entries.{total}, Schedules.{total_at}}
use Rattle.tz_ever.specs.{InForce.{span_at}, InForceLaws.{total_at-is}, Recurrences.{turned, zone_span, zone_total}}
use Rattle.tz_lookup.specs.{CompileLaws.{totals_same}, Compiles.{spans_of}, SecondLaws.{second_is}, Sets.{schedule_of}, declared.set.FixedTimespanSet.{FixedTimespanSet}}
use Rattle.tz_tzif.{specs.{InForce.{kind_at, told_total_at}, Opened.{IsOpenedAs}, Years.{HasDate}, declared.spans.FileSpans.{FileSpans}}, proofs.SpanLemmas.{total_of_span}}
use Rattle.zone_tzif_core.specs.Zones.{ZoneValue}
use Rattle.tz_tzif.proofs.laws.opened_shows.Goals as goal

-- the total of a set is that of the span in force
total_is : (set : FixedTimespanSet) (t : ℤ) → total_at (schedule_of set) t ≡ total (span_at (spans_of set) t)
total_is set t = ap (λ s. total_at s t) (sym (totals_same set (spans_of set) refl refl)) ∙ total_at-is (spans_of set) t

shown : (name : List ℕ) (value : ZoneValue) (opened : FileSpans) (is : IsOpenedAs name value opened) (t : ℤ) → HasDate (seconds_of t)
    → zone_total opened.recurrence opened.set t ≡ told_total_at value is.says t
unfolding zone_total zone_span
shown name value opened is t has =
    total_is opened.set (turned opened.recurrence t) ∙ ap total (is.shows t has) ∙ total_of_span (kind_at value is.says t)

-- an instant within 26 hours of a local time of the years
near_years : (x o : ℤ) → IsInYears x → IsOffset o → HasDate (seconds_of (instant_at x o))
near_years x o years range =
    let here = second_is (instant_at x o) in record {
      first = omega (arith, ints, years_begin x years, offset_greatest o range, here.high);
      last = omega (arith, ints, years_end x years, offset_least o range, here.low);
    }

pub returns-clause-total : goal.returns-clause-total
returns-clause-total c = shown

pub returns-clause-reads : goal.returns-clause-reads
returns-clause-reads c = λ name value opened is x years.
    c.reads_alike.ensures (zone_total opened.recurrence opened.set) (told_total_at value is.says) x
    (λ o range. shown name value opened is (instant_at x o) (near_years x o years range))
