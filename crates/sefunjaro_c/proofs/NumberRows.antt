-- What calls tell, beside the names of the header: each number is the one that the table has.
use Rattle.std.proofs.Common.{◌≡◌, refl, ℕ, List, [], ◌∷◌, codes, map, pos, Some}
use Rattle.sefunjaro_c.specs.Statuses as status
use Rattle.zone_table.specs.declared.fault.FaultKind.TheVariants as line
use Rattle.sefunjaro.specs.Found.{by_offset, kind_of}
use Rattle.sefunjaro.specs.declared.file.FileFault.TheVariants as file
use Rattle.sefunjaro.specs.declared.found.FoldRule.TheVariants as fold
use Rattle.sefunjaro.specs.declared.found.GapRule.TheVariants as gap
use Rattle.zone_plain_lines.specs.declared.cause.PlainCause.TheVariants as cause
use Rattle.zone_source.specs.declared.error.BuildKind.TheVariants as join
use Rattle.zone_spans.specs.declared.fault.SpanFault.TheVariants as span
use Rattle.zone_tail.specs.declared.outcome.TailFault.TheVariants as tail
use Rattle.zone_tzif.specs.declared.outcome.EverTailFault.TheVariants as ever
use Rattle.zone_tzif.specs.declared.file.FileFault.TheVariants as written
use Rattle.sefunjaro_c.specs.{AnySources.{line_told, long_form}, Faults.{join_number, kind_number, schedule_number}, Files.{file_told}, ForEver.{ever_file_told, ever_tail_told, rules_end}, Found.{fold_of, gap_of}, Numbers.{folds, gap_rules, kinds, statuses, line_causes, join_causes, schedule_causes, plain_causes, ever_causes, file_causes, tail_causes, tzif_causes}, Whole.{tail_told, tzif_told}}

status_numbers : (codes "DONE", status.done) ∷ (codes "NOT_OPEN", status.not_open) ∷ (codes "NO_MEMORY", status.out_of_memory) ∷ (codes "TOO_LONG", status.too_long)
    ∷ (codes "NOT_TEXT", status.not_text) ∷ (codes "BAD_LINE", status.bad_line) ∷ (codes "BAD_JOIN", status.bad_join) ∷ (codes "UNKNOWN_ZONE", status.unknown_zone)
    ∷ (codes "NO_SCHEDULE", status.no_schedule) ∷ (codes "OFFSET_RANGE", status.offset_range) ∷ (codes "OUT_OF_RANGE", status.out_of_range)
    ∷ (codes "NONE", status.none_there) ∷ (codes "NOT_READ", status.not_read) ∷ (codes "NOT_KEPT", status.not_kept) ∷ (codes "NO_PLAIN_FORM", status.no_plain_form) ∷ []
    ≡ statuses
status_numbers = refl

line_numbers : (codes "FAILED_YEAR_PARSE", kind_number line.FailedYearParse) ∷ (codes "FAILED_MONTH_PARSE", kind_number line.FailedMonthParse)
    ∷ (codes "FAILED_WEEKDAY_PARSE", kind_number line.FailedWeekdayParse) ∷ (codes "INVALID_LINE_TYPE", kind_number line.InvalidLineType)
    ∷ (codes "TYPE_COLUMN_CONTAINED_NON_HYPHEN", kind_number line.TypeColumnContainedNonHyphen)
    ∷ (codes "COULD_NOT_PARSE_SAVING", kind_number line.CouldNotParseSaving) ∷ (codes "INVALID_DAY_SPEC", kind_number line.InvalidDaySpec)
    ∷ (codes "INVALID_TIME_SPEC_AND_TYPE", kind_number line.InvalidTimeSpecAndType)
    ∷ (codes "NON_WALL_CLOCK_IN_TIME_SPEC", kind_number line.NonWallClockInTimeSpec) ∷ []
    ≡ line_causes
line_numbers = refl

join_numbers : (codes "SURPRISE_CONTINUATION_LINE", join_number join.SurpriseContinuationLine) ∷ (codes "UNKNOWN_RULESET", join_number join.UnknownRuleset)
    ∷ (codes "DUPLICATE_LINK", join_number join.DuplicateLink) ∷ (codes "DUPLICATE_ZONE", join_number join.DuplicateZone) ∷ []
    ≡ join_causes
join_numbers = refl

schedule_numbers : (codes "UNKNOWN_RULESET", schedule_number span.UnknownRuleset) ∷ (codes "MISSING_UNTIL", schedule_number span.MissingUntil)
    ∷ (codes "YEAR_RANGE", schedule_number span.YearRange) ∷ (codes "RULE_YEARS", schedule_number span.RuleYears)
    ∷ (codes "DAY_RANGE", schedule_number span.DayRange) ∷ (codes "NO_STANDARD_SPAN", schedule_number span.NoStandardSpan) ∷ []
    ≡ schedule_causes
schedule_numbers = refl

plain_numbers : (codes "NOT_TEXT", (line_told 1 cause.NotText).cause) ∷ (codes "QUOTES", (line_told 1 cause.Quotes).cause)
    ∷ (codes "LINE_TYPE", (line_told 1 cause.LineType).cause) ∷ (codes "FIELD_COUNT", (line_told 1 cause.FieldCount).cause)
    ∷ (codes "RULESET_NAME", (line_told 1 cause.RulesetName).cause) ∷ (codes "YEAR", (line_told 1 cause.Year).cause)
    ∷ (codes "YEAR_ORDER", (line_told 1 cause.YearOrder).cause) ∷ (codes "TYPE", (line_told 1 cause.Type).cause)
    ∷ (codes "MONTH", (line_told 1 cause.Month).cause) ∷ (codes "DAY", (line_told 1 cause.Day).cause) ∷ (codes "TIME", (line_told 1 cause.Time).cause)
    ∷ (codes "SAVING", (line_told 1 cause.Saving).cause) ∷ (codes "FORMAT", (line_told 1 cause.Format).cause)
    ∷ (codes "UNSAYABLE", (line_told 1 cause.Unsayable).cause) ∷ (codes "CONTINUATION", (line_told 1 cause.Continuation).cause)
    ∷ (codes "UNKNOWN_RULESET", (line_told 1 cause.UnknownRuleset).cause) ∷ (codes "DUPLICATE_ZONE", (line_told 1 cause.DuplicateZone).cause)
    ∷ (codes "LINK_IS_ZONE", (line_told 1 cause.LinkIsZone).cause) ∷ (codes "DUPLICATE_LINK", (line_told 1 cause.DuplicateLink).cause)
    ∷ (codes "TARGET", (line_told 1 cause.Target).cause) ∷ (codes "TOO_LONG", long_form.cause) ∷ (codes "NAME", (line_told 1 cause.Name).cause) ∷ []
    ≡ plain_causes
plain_numbers = refl

file_numbers : (codes "REFUSED", (file_told file.Refused).cause) ∷ (codes "FOOTER", (file_told file.Footer).cause) ∷ [] ≡ file_causes
file_numbers = refl

tail_numbers : (codes "SHAPE", (tail_told tail.Shape).cause) ∷ (codes "OFFSET_RANGE", (tail_told tail.OffsetRange).cause)
    ∷ (codes "NAME", (tail_told tail.Name).cause) ∷ []
    ≡ tail_causes
tail_numbers = refl

tzif_numbers : (codes "TIMES", (tzif_told written.Times).cause) ∷ (codes "TYPES", (tzif_told written.Types).cause)
    ∷ (codes "NAMES", (tzif_told written.Names).cause) ∷ []
    ≡ tzif_causes
tzif_numbers = refl

ever_numbers : (codes "SHAPE", (ever_tail_told ever.Shape).cause) ∷ (codes "OFFSET_RANGE", (ever_tail_told ever.OffsetRange).cause)
    ∷ (codes "NAME", (ever_tail_told ever.Name).cause) ∷ (codes "NO_RULE", (ever_tail_told ever.NoRule).cause)
    ∷ (codes "TIMES", (ever_file_told written.Times).cause) ∷ (codes "TYPES", (ever_file_told written.Types).cause)
    ∷ (codes "NAMES", (ever_file_told written.Names).cause) ∷ (codes "RULES_END", rules_end.cause) ∷ (codes "SAVING", (ever_tail_told ever.Saving).cause) ∷ []
    ≡ ever_causes
ever_numbers = refl

-- the rules of the table's numbers, in its order
fold_numbers : map (λ (row : List ℕ × ℕ). fold_of row.1) folds ≡ Some fold.First ∷ Some fold.Second ∷ []
fold_numbers = refl

gap_numbers : map (λ (row : List ℕ × ℕ). gap_of row.1) gap_rules ≡ Some gap.Before ∷ Some gap.After ∷ Some gap.None ∷ []
gap_numbers = refl

kind_numbers : (codes "GAP", (by_offset (pos 0) (pos 0)).kind) ∷ (codes "ONE", kind_of 1) ∷ (codes "FOLD", kind_of 2) ∷ (codes "MORE", kind_of 3) ∷ [] ≡ kinds
kind_numbers = refl
