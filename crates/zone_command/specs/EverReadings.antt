-- Zones that are read for ever.
use Rattle.std.specs.Prelude.{ℤ, Bool, List, Some, Ok, Err, if◌then◌else◌}
use Rattle.zone_table.specs.declared.zone.ZoneInfo.{ZoneInfo}
use Rattle.zone_spans.specs.{Compiled.{compiled_over}, GoesOn.{goes_on}, Lines.{Rulesets, zone_lines}, declared.fault.SpanFault.TheVariants.{DayRange}}
use Rattle.tz_ever.specs.{AnyYear.{total_for_ever}, ForEver.{ever_years}, Opens.{leaves_year}}
use Rattle.zone_run.specs.Readings.{Found, Reading, Spans, ZoneCause, bad_schedule, given_of, rules_end, to_2099}

-- why lines don't go on: for a day of the first 704 years that lies in another year than its own, or without one
abbrev pub ending : Bool → ZoneCause
ending leaves = if leaves then bad_schedule DayRange else rules_end

-- the total at each instant, of lines of which this is found to 2099
abbrev pub found_on : Rulesets → List ZoneInfo → Found Spans → Found (ℤ → ℤ)
found_on rulesets lines (Err cause) = Err cause
found_on rulesets lines (Ok today) =
    if goes_on (zone_lines rulesets lines)
    then given_of (λ set. total_for_ever rulesets lines) (compiled_over ever_years rulesets lines)
    else Err (ending (leaves_year (Some (compiled_over ever_years rulesets lines))))

-- a zone that can be asked to 2099 can be asked for ever where it goes on
unfoldable pub for_ever : Reading (ℤ → ℤ)
for_ever rulesets lines = found_on rulesets lines (to_2099 rulesets lines)
