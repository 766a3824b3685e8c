-- The total of a cut is the total in force.
use Rattle.std.proofs.Common.{◌≡◌, ℕ, ℤ, sym, ap, ◌∙◌}
use Rattle.civil_base.specs.Instants.{seconds_of}
use Rattle.zone_spans.specs.Schedules.{Schedule, total_at}
use Rattle.tz_lookup.specs.{Spans.{total_of, IsCut, total_from}, SpanLaws.{total_from_cut}, SecondLaws.{total_is}}

pub at_cut : (zone : Schedule) (t s : ℤ) (k : ℕ) → s ≡ seconds_of t → IsCut zone.shifts k s
    → total_of zone.first zone.shifts k ≡ total_at zone t
at_cut zone t s k e cut =
    sym (total_from_cut zone.first zone.shifts k s cut) ∙ ap (total_from zone.first zone.shifts) e ∙ sym (total_is zone t)
