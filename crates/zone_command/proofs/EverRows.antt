-- What is found of zones for ever.
use Rattle.std.proofs.Common.{◌≡◌, List, true, false, Some, Ok, Err, refl, ap}
use Rattle.zone_table.specs.declared.zone.ZoneInfo.{ZoneInfo}
use Rattle.zone_spans.specs.{Compiled.{compiled_over}, GoesOn.{goes_on}, Lines.{Rulesets, zone_lines}, declared.fault.SpanFault.TheVariants.{DayRange}, Schedules.{is_in_offset_range, totals_of}}
use Rattle.tz_ever.specs.{AnyYear.{total_for_ever}, Opens.{leaves_year}}
use Rattle.zone_run.specs.Readings.{Spans, ZoneCause, bad_schedule, offset_range, rules_end, to_2099}
use Rattle.zone_command.specs.EverReadings.{for_ever, found_on}

module _ (rulesets : Rulesets) (lines : List ZoneInfo) (today later : Spans) where
  -- a cause of the years to 2099 comes first, whatever the rules
  cause_first : (cause : ZoneCause) → to_2099 rulesets lines ≡ Err cause → for_ever rulesets lines ≡ Err cause
  unfolding for_ever
  cause_first cause is = ap (found_on rulesets lines) is

  -- then, of lines that don't go on, a day of the first 704 years that lies in another year than its own
  then_days : to_2099 rulesets lines ≡ Ok today → goes_on (zone_lines rulesets lines) ≡ false
      → compiled_over 704 rulesets lines ≡ Err DayRange → for_ever rulesets lines ≡ Err (bad_schedule DayRange)
  unfolding for_ever
  then_days is ends leaves = rw (is, ends, leaves) refl

  -- else that the rules end
  then_rules_end : to_2099 rulesets lines ≡ Ok today → goes_on (zone_lines rulesets lines) ≡ false
      → leaves_year (Some (compiled_over 704 rulesets lines)) ≡ false → for_ever rulesets lines ≡ Err rules_end
  unfolding for_ever
  then_rules_end is ends stays = rw (is, ends, stays) refl

  -- then an offset of the first 704 years
  then_offsets : to_2099 rulesets lines ≡ Ok today → goes_on (zone_lines rulesets lines) ≡ true
      → compiled_over 704 rulesets lines ≡ Ok later → is_in_offset_range (totals_of later) ≡ false
      → for_ever rulesets lines ≡ Err offset_range
  unfolding for_ever
  then_offsets is goes found far = rw (is, goes, found, far) refl

  -- and else it has the total for ever
  then_later : to_2099 rulesets lines ≡ Ok today → goes_on (zone_lines rulesets lines) ≡ true
      → compiled_over 704 rulesets lines ≡ Ok later → is_in_offset_range (totals_of later) ≡ true
      → for_ever rulesets lines ≡ Ok (total_for_ever rulesets lines)
  unfolding for_ever
  then_later is goes found small = rw (is, goes, found, small) refl
