-- A zone's lines whose spans over 704 years are a set, and what makes the set say all that the zone shows for ever.
use Rattle.std.specs.{Prelude.{◌≡◌, ℕ, List, true, Ok}, List.{list_all}}
use Rattle.zone_table.specs.declared.zone.ZoneInfo.{ZoneInfo}
use Rattle.zone_spans.specs.{Bounds.{is_bounded_line}, Compiled.{compiled, compiled_over}, Lines.{Rulesets, zone_lines}, Schedules.{is_in_offset_range, totals_of}, GoesOn.{GoesOn}}
use Rattle.zone_spans.specs.declared.span.FixedTimespanSet as spans
use Rattle.tz_lookup.specs.{Compiles.{spans_of}, declared.set.FixedTimespanSet.{FixedTimespanSet}}

-- the years from 1800 to 2503: two past the seam's end
abbrev pub ever_years : ℕ
ever_years = 704

-- the zone goes on, its numbers are small, it has a schedule today whose totals are offsets, and the set is that of 704 years
pub record IsForEver (rulesets : Rulesets) (infos : List ZoneInfo) (set : FixedTimespanSet) : Type 0 where
  pub goes_on : GoesOn rulesets infos
  pub bounded : list_all is_bounded_line (zone_lines rulesets infos) ≡ true
  pub today : spans.FixedTimespanSet
  pub compiles : compiled rulesets infos ≡ Ok today
  pub range : is_in_offset_range (totals_of today) ≡ true
  pub set_is : compiled_over ever_years rulesets infos ≡ Ok (spans_of set)
