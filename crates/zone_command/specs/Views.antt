-- What is seen of the zone that a name finds in a table, or why there is none to ask.
use Rattle.std.specs.{Prelude.{◌≡◌, ℕ, ℤ, pos, List, map, Option, Some, None, Result, Ok, Err, codes, if◌then◌else◌}, FinMap.{contains_key, get}}
use Rattle.sefunjaro.specs.{Changes.{window}, Replies.{differing, force_of, span_on}}
use Rattle.tz_ever.specs.{Ever.{ever_total}, ForEver.{ever_years}, Unrolled.{unrolled}}
use Rattle.tz_lookup.specs.{Databases.{names_of}, Sets.{schedule_of}, declared.compile.ZoneFault.{ZoneFault}, declared.set.FixedTimespanSet.{FixedTimespanSet}}
use Rattle.tz_lookup.specs.declared.compile.ZoneFault.TheVariants as zone_fault
use Rattle.zone_texts.specs.{Near.{near_names}, SeenNames.{NameSeen}, Unknown.{unknown_text}, Views.{ZoneView}}
use Rattle.zone_spans.specs.{Compiled.{compiled, compiled_over}, GoesOn.{goes_on}, Lines.{Rulesets, zone_lines}, Schedules.{instants, is_in_offset_range, total_at, totals_of}, Years.{latest_year}, declared.fault.SpanFault.{SpanFault}}
use Rattle.zone_spans.specs.declared.fault.SpanFault.TheVariants.{UnknownRuleset, MissingUntil, YearRange, RuleYears, DayRange, NoStandardSpan, NoMemory}
use Rattle.zone_spans.specs.declared.span.FixedTimespanSet as spans
use Rattle.zone_table.specs.{Resolved.{resolved_in}, declared.table.Table.{Table}, declared.zone.ZoneInfo.{ZoneInfo}}

-- spans under a name
abbrev pub named_set : List ℕ → spans.FixedTimespanSet → FixedTimespanSet
named_set name found = record { name = name; first = found.first; others = found.rest }

-- spans whose offsets are of less than 26 hours
abbrev pub if_in_range : List ℕ → Result spans.FixedTimespanSet SpanFault → Option FixedTimespanSet
if_in_range name (Ok found) = if is_in_offset_range (totals_of found) then Some (named_set name found) else None
if_in_range name (Err fault) = None

-- what lines put in force for ever, where they go on
abbrev pub ever_set : Rulesets → List ℕ → List ZoneInfo → Option FixedTimespanSet
ever_set rulesets name infos =
    if goes_on (zone_lines rulesets infos) then if_in_range name (compiled_over ever_years rulesets infos) else None

-- of a set, or of what goes on: the total at each instant, the spans of its changes, and the last year up to whose end it says this
abbrev pub total_by : FixedTimespanSet → Option FixedTimespanSet → ℤ → ℤ
total_by set None = total_at (schedule_of set)
total_by set (Some ever) = ever_total ever

abbrev pub spans_by : FixedTimespanSet → Option FixedTimespanSet → FixedTimespanSet
spans_by set None = set
spans_by set (Some ever) = unrolled ever

abbrev pub last_year_by : Option FixedTimespanSet → ℤ
last_year_by None = pos latest_year
last_year_by (Some ever) = pos 9999

abbrev pub view_of : FixedTimespanSet → Option FixedTimespanSet → ZoneView
view_of set ever = record {
  total = total_by set ever;
  readings = instants (total_by set ever);
  force = λ second. force_of (span_on (spans_by set ever) second);
  changes = λ from to. differing (window (spans_by set ever) from to);
  last_year = last_year_by ever;
}

-- what is told of a name that finds no zone to ask
-- a name, and the name that it leads to where it is a link's
abbrev pub entry_of : Table → List ℕ → NameSeen
entry_of table name = record { name = name; zone = if contains_key table.zonesets name then None else get table.links name }

-- the names that find a zone, in byte order
abbrev pub entries_of : Table → List NameSeen
entries_of table = map (entry_of table) (names_of table)

unfoldable pub unknown_words : Table → List ℕ → List ℕ
unknown_words table name = unknown_text (near_names (entries_of table) name)

abbrev pub schedule_words : SpanFault → List ℕ
schedule_words UnknownRuleset = codes "a line of this zone names rules that aren't there"
schedule_words MissingUntil = codes "a line of this zone has no end, and another follows"
schedule_words YearRange = codes "a line of this zone ends in no year from 1 to 9999"
schedule_words RuleYears = codes "a rule of this zone begins in no year"
schedule_words DayRange = codes "a day of this zone's lines lies in another year than theirs"
schedule_words NoStandardSpan = codes "no offset is known before this zone's first change"
schedule_words NoMemory = codes "out of memory"

abbrev pub range_words : List ℕ
range_words = codes "this zone has an offset of 26 hours or more"

abbrev pub view_by : Rulesets → List ℕ → List ZoneInfo → Result spans.FixedTimespanSet SpanFault → Result ZoneView (List ℕ)
view_by rulesets name infos (Ok found) =
    if is_in_offset_range (totals_of found) then Ok (view_of (named_set name found) (ever_set rulesets name infos)) else Err range_words
view_by rulesets name infos (Err fault) = Err (schedule_words fault)

abbrev pub view_in : List ℕ → Rulesets → List ℕ → Option (List ZoneInfo) → Result ZoneView (List ℕ)
view_in unknown rulesets name None = Err unknown
view_in unknown rulesets name (Some infos) = view_by rulesets name infos (compiled rulesets infos)

-- the zone of a name: it goes on for ever where its lines do
unfoldable pub found_in : Table → List ℕ → Result ZoneView (List ℕ)
found_in table name = view_in (unknown_words table name) (get table.rulesets) name (resolved_in table name)

-- what the lines of a name put in force for ever, if they go on
abbrev pub ever_by : Rulesets → List ℕ → Option (List ZoneInfo) → Option FixedTimespanSet
ever_by rulesets name None = None
ever_by rulesets name (Some infos) = ever_set rulesets name infos

unfoldable pub ever_found : Table → List ℕ → Option FixedTimespanSet
ever_found table name = ever_by (get table.rulesets) name (resolved_in table name)

-- a fault tells why a name finds none; want of memory may come in place of any
abbrev pub IsToldAs : Table → List ℕ → ZoneFault → Type 0
IsToldAs table name zone_fault.UnknownZone = found_in table name ≡ Err (unknown_words table name)
IsToldAs table name (zone_fault.Schedule fault) = found_in table name ≡ Err (schedule_words fault)
IsToldAs table name zone_fault.OffsetRange = found_in table name ≡ Err range_words
IsToldAs table name zone_fault.NoMemory = Unit {0}
