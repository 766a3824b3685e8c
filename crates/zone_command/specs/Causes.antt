-- What is told of a line of a source, in words.
use Rattle.std.specs.{Prelude.{ℕ, Bool, true, false, List, ◌++◌, codes, decimal}, Option.{option_map_or}}
use Rattle.zone_plain_lines.specs.declared.cause.PlainCause.{PlainCause}
use Rattle.zone_plain_lines.specs.declared.cause.PlainCause.TheVariants as plain
use Rattle.zone_source.specs.declared.error.{BuildKind.{BuildKind}, SourceError.{SourceError}}
use Rattle.zone_source.specs.declared.error.BuildKind.TheVariants as join
use Rattle.zone_source.specs.declared.error.SourceError.TheVariants as error
use Rattle.zone_table.specs.{Faults.{fault_of}, declared.fault.FaultKind.{FaultKind}}
use Rattle.zone_table.specs.declared.fault.FaultKind.TheVariants as kind

-- why a line has no plain form
abbrev pub cause_words : PlainCause → List ℕ
cause_words plain.NotText = codes "it isn't text in UTF-8"
cause_words plain.Quotes = codes "quotes are left open, or around nothing"
cause_words plain.LineType = codes "its first word is none of Rule, Zone and Link"
cause_words plain.FieldCount = codes "it has too few words, or too many"
cause_words plain.RulesetName = codes "no rules have such a name"
cause_words plain.Year = codes "a year of it is none"
cause_words plain.YearOrder = codes "its last year comes before its first"
cause_words plain.Type = codes "its TYPE isn't -"
cause_words plain.Month = codes "a month of it is none, or two"
cause_words plain.Day = codes "a day of it is none of its month"
cause_words plain.Time = codes "a time of it is none"
cause_words plain.Saving = codes "the letter behind its saving changes which time is standard"
cause_words plain.Format = codes "its FORMAT is empty, or has a % that can't be filled"
cause_words plain.Unsayable = codes "it would be read as something else than it means"
cause_words plain.Continuation = codes "a line that goes on with it is missing"
cause_words plain.UnknownRuleset = codes "its RULES are no amount of time, and no rules have that name"
cause_words plain.DuplicateZone = codes "an earlier zone has its name"
cause_words plain.LinkIsZone = codes "a zone has the name of this link"
cause_words plain.DuplicateLink = codes "an earlier link has its name and leads elsewhere"
cause_words plain.Target = codes "this link leads to no zone"
cause_words plain.Name = codes "no zone has such a name"

-- why a line in plain form is refused, by itself and behind those before it
abbrev pub kind_words : FaultKind → List ℕ
kind_words kind.FailedYearParse = codes "a year of it is none"
kind_words kind.FailedMonthParse = codes "a month of it is none"
kind_words kind.FailedWeekdayParse = codes "a weekday of it is none"
kind_words kind.InvalidLineType = codes "it is no rule, zone, link or line that goes on with one"
kind_words kind.TypeColumnContainedNonHyphen = codes "its TYPE isn't -"
kind_words kind.CouldNotParseSaving = codes "a saving of it is none"
kind_words kind.InvalidDaySpec = codes "a day of it is none"
kind_words kind.InvalidTimeSpecAndType = codes "a time of it is none"
kind_words kind.NonWallClockInTimeSpec = codes "a time of it is none by the wall's clock"

abbrev pub join_words : BuildKind → List ℕ
join_words join.SurpriseContinuationLine = codes "no zone stands before it"
join_words join.UnknownRuleset = codes "no rules before it have the name that it is under"
join_words join.DuplicateLink = codes "an earlier link has its name"
join_words join.DuplicateZone = codes "an earlier zone has its name"

-- what is told of a line: of a source, or of its plain form
abbrev pub of_text : Bool → List ℕ
of_text false = codes " of this source can't be read: "
of_text true = codes " of this source in plain form can't be read: "

-- what is told of the nth line of it, and why
unfoldable pub line_words : ℕ → Bool → List ℕ → List ℕ
line_words n in_form why = (codes "line " ++ decimal n) ++ (of_text in_form ++ why)

-- what is told of a plain form
abbrev pub form_words : SourceError → List ℕ
form_words (error.NotText n) = line_words n true (cause_words plain.NotText)
form_words (error.Line n e) = option_map_or (λ fault. line_words n true (kind_words fault.kind)) (fault_of e) (codes "out of memory")
form_words (error.Build n kind) = line_words n true (join_words kind)
form_words error.NoMemory = codes "out of memory"
