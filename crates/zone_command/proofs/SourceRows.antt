-- What is told of sources, in words: each cause, and which line it is told of.
use Rattle.std.{proofs.Common.{◌≡◌, refl, ap, sym, ◌∙◌, inl, inr, map, ℕ, true, false, List, [], ◌∷◌, ◌++◌, Option, Some, None}, proofs.lemmas.Option.{same_Some}, specs.Prelude.{codes, Ok, Err}, specs.Fmt.{digits}, specs.Prelude.{String}, specs.declared.alloc.Global.{Global}}
use Rattle.sefunjaro.specs.declared.source.OpenSource.{OpenSource}
use Rattle.sefunjaro.specs.declared.any_source.AnySourceFault.TheVariants as source
use Rattle.zone_plain.specs.Plain.{plain_of}
use Rattle.zone_plain_lines.specs.{LineFaults.{at, bad_line, too_long}, declared.cause.PlainCause.{PlainCause}}
use Rattle.zone_plain_lines.specs.declared.cause.PlainCause.TheVariants as plain
use Rattle.zone_command.specs.{Causes.{cause_words, form_words, join_words, kind_words, line_words}, Sources.{fault_words, first_refusal, form_due, form_of, is_compiled, is_cut, unless, HasFault, IsRead, IsReadPlainly, IsUnread, IsUnreadPlainly}, Views.{schedule_words}, Wholes.{changes_words, file_words, tail_words, why_words}}
use Rattle.zone_source.specs.declared.error.{BuildKind.{BuildKind}}
use Rattle.zone_source.specs.declared.error.BuildKind.TheVariants as join
use Rattle.zone_source.specs.declared.error.SourceError.TheVariants as error
use Rattle.zone_spans.specs.declared.fault.SpanFault.{SpanFault}
use Rattle.zone_spans.specs.declared.fault.SpanFault.TheVariants as span
use Rattle.zone_tzif.specs.declared.{outcome.EverTailFault.{EverTailFault}, file.FileFault.{FileFault}}
use Rattle.zone_tzif.specs.declared.outcome.EverTailFault.TheVariants as tail
use Rattle.zone_tzif.specs.declared.ever.EverFileFault.TheVariants as file
use Rattle.zone_tzif.specs.declared.file.FileFault.TheVariants as changes
use Rattle.zone_tree.specs.declared.refusal.Why.{Why}
use Rattle.zone_tree.specs.declared.refusal.Why.TheVariants as why
use Rattle.zone_tzif_core.specs.declared.values.WriteFault.TheVariants as write
use Rattle.zone_table.specs.declared.fault.FaultKind.{FaultKind}
use Rattle.zone_table.specs.declared.fault.FaultKind.TheVariants as kind
use Rattle.zone_table.specs.declared.line_error.Error.TheVariants as line

abbrev causes : List (PlainCause × List ℕ)
causes =
    (plain.NotText, codes "it isn't text in UTF-8") ∷
    (plain.Quotes, codes "quotes are left open, or around nothing") ∷
    (plain.LineType, codes "its first word is none of Rule, Zone and Link") ∷
    (plain.FieldCount, codes "it has too few words, or too many") ∷
    (plain.RulesetName, codes "no rules have such a name") ∷
    (plain.Year, codes "a year of it is none") ∷
    (plain.YearOrder, codes "its last year comes before its first") ∷
    (plain.Type, codes "its TYPE isn't -") ∷
    (plain.Month, codes "a month of it is none, or two") ∷
    (plain.Day, codes "a day of it is none of its month") ∷
    (plain.Time, codes "a time of it is none") ∷
    (plain.Saving, codes "the letter behind its saving changes which time is standard") ∷
    (plain.Format, codes "its FORMAT is empty, or has a % that can't be filled") ∷
    (plain.Unsayable, codes "it would be read as something else than it means") ∷
    (plain.Continuation, codes "a line that goes on with it is missing") ∷
    (plain.UnknownRuleset, codes "its RULES are no amount of time, and no rules have that name") ∷
    (plain.DuplicateZone, codes "an earlier zone has its name") ∷
    (plain.LinkIsZone, codes "a zone has the name of this link") ∷
    (plain.DuplicateLink, codes "an earlier link has its name and leads elsewhere") ∷
    (plain.Target, codes "this link leads to no zone") ∷
    (plain.Name, codes "no zone has such a name") ∷ []

worked_causes : map (λ row. cause_words row.0) causes ≡ map (λ row. row.1) causes
worked_causes = refl

abbrev kinds : List (FaultKind × List ℕ)
kinds =
    (kind.FailedYearParse, codes "a year of it is none") ∷
    (kind.FailedMonthParse, codes "a month of it is none") ∷
    (kind.FailedWeekdayParse, codes "a weekday of it is none") ∷
    (kind.InvalidLineType, codes "it is no rule, zone, link or line that goes on with one") ∷
    (kind.TypeColumnContainedNonHyphen, codes "its TYPE isn't -") ∷
    (kind.CouldNotParseSaving, codes "a saving of it is none") ∷
    (kind.InvalidDaySpec, codes "a day of it is none") ∷
    (kind.InvalidTimeSpecAndType, codes "a time of it is none") ∷
    (kind.NonWallClockInTimeSpec, codes "a time of it is none by the wall's clock") ∷ []

worked_kinds : map (λ row. kind_words row.0) kinds ≡ map (λ row. row.1) kinds
worked_kinds = refl

abbrev joins : List (BuildKind × List ℕ)
joins =
    (join.SurpriseContinuationLine, codes "no zone stands before it") ∷
    (join.UnknownRuleset, codes "no rules before it have the name that it is under") ∷
    (join.DuplicateLink, codes "an earlier link has its name") ∷
    (join.DuplicateZone, codes "an earlier zone has its name") ∷ []

worked_joins : map (λ row. join_words row.0) joins ≡ map (λ row. row.1) joins
worked_joins = refl

abbrev schedules : List (SpanFault × List ℕ)
schedules =
    (span.UnknownRuleset, codes "a line of this zone names rules that aren't there") ∷
    (span.MissingUntil, codes "a line of this zone has no end, and another follows") ∷
    (span.YearRange, codes "a line of this zone ends in no year from 1 to 9999") ∷
    (span.RuleYears, codes "a rule of this zone begins in no year") ∷
    (span.DayRange, codes "a day of this zone's lines lies in another year than theirs") ∷
    (span.NoStandardSpan, codes "no offset is known before this zone's first change") ∷
    (span.NoMemory, codes "out of memory") ∷ []

worked_schedules : map (λ row. schedule_words row.0) schedules ≡ map (λ row. row.1) schedules
worked_schedules = refl

abbrev tails : List (EverTailFault × List ℕ)
tails =
    (tail.Saving, codes "no string says this zone for ever: it has daylight saving time for good") ∷
    (tail.Shape, codes "no string says this zone for ever: a year has other changes than one to daylight saving time and one back") ∷
    (tail.OffsetRange, codes "no string says this zone for ever: it has an offset past 24:59:59") ∷
    (tail.Name, codes "no string says this zone for ever: an abbreviation isn't three or more letters, digits, + or -") ∷
    (tail.NoRule, codes "no string says this zone for ever: no days of its rules come again each year") ∷
    (tail.NoMemory, codes "out of memory") ∷ []

worked_tails : map (λ row. tail_words row.0) tails ≡ map (λ row. row.1) tails
worked_tails = refl

abbrev files : List (FileFault × List ℕ)
files =
    (changes.Times, codes "this zone has no file: its changes don't rise, or are too many") ∷
    (changes.Types, codes "this zone has no file: it has more than 256 kinds of time") ∷
    (changes.Names, codes "this zone has no file: its abbreviations don't fit into one") ∷
    (changes.NoMemory, codes "out of memory") ∷ []

worked_files : map (λ row. changes_words row.0) files ≡ map (λ row. row.1) files
worked_files = refl

abbrev whys : List (Why × List ℕ)
whys =
    (why.Schedule span.MissingUntil, codes "a line of this zone has no end, and another follows") ∷
    (why.OffsetRange, codes "this zone has an offset of 26 hours or more") ∷
    (why.RulesEnd, codes "the rules of this zone end, or aren't found to come again, so it isn't told for ever") ∷
    (why.String tail.NoRule, codes "no string says this zone for ever: no days of its rules come again each year") ∷
    (why.Format, codes "a % is left in an abbreviation of this zone") ∷
    (why.File write.Times, codes "this zone has no file: its changes don't rise, or are too many") ∷
    (why.File write.Types, codes "this zone has no file: it has more than 256 kinds of time") ∷
    (why.File write.Names, codes "this zone has no file: its abbreviations don't fit into one") ∷
    (why.File write.Offset, codes "this zone has no file: it has an offset of 26 hours or more") ∷
    (why.File write.Footer, codes "this zone has no file: its string doesn't fit into one") ∷
    (why.File write.NoMemory, codes "out of memory") ∷
    (why.Link, codes "this link leads to no zone") ∷
    (why.Name, codes "an archive has no place for this name") ∷
    (why.Size, codes "the file of this zone is too long for an archive") ∷ []

worked_whys : map (λ row. why_words row.0) whys ≡ map (λ row. row.1) whys
worked_whys = refl

-- which line, of which text; a plain form has lines of its own
worked_faults : map fault_words (
    source.TooLong ∷ source.Line 12 plain.Month ∷ source.PlainTooLong ∷ source.Plain (error.NotText 3) ∷ source.Plain (error.Build 4 join.DuplicateZone)
    ∷ source.Plain (error.Line 5 line.NoMemory) ∷ source.Plain error.NoMemory ∷ source.NoMemory ∷ []
    ) ≡ codes "this source has more than 16,777,216 bytes" ∷ codes "line 12 of this source can't be read: a month of it is none, or two"
    ∷ codes "this source has more than 16,777,216 bytes in plain form"
    ∷ codes "line 3 of this source in plain form can't be read: it isn't text in UTF-8"
    ∷ codes "line 4 of this source in plain form can't be read: an earlier zone has its name"
    ∷ codes "out of memory" ∷ codes "out of memory" ∷ codes "out of memory" ∷ []
unfolding digits line_words
worked_faults = refl

-- a line with a text that is refused
form_line : (text : String Global) → form_words (error.Line 5 (line.FailedYearParse text)) ≡ codes "line 5 of this source in plain form can't be read: a year of it is none"
unfolding digits line_words
form_line text = refl

worked_file : map file_words (file.Footer tail.Name ∷ file.File changes.Names ∷ []) ≡ tail_words tail.Name ∷ changes_words changes.Names ∷ []
worked_file = refl

-- four bytes are looked at
worked_compiled : map is_compiled (codes "TZif" ∷ codes "TZif2 and more" ∷ codes "TZi" ∷ codes "tzif2" ∷ codes " TZif" ∷ [] ∷ [])
    ≡ true ∷ true ∷ false ∷ false ∷ false ∷ false ∷ []
worked_compiled = refl

-- a plain form, or why there is none, as of a source
worked_forms : map form_due (Ok (codes "a") ∷ Err (bad_line (at 12 plain.Month)) ∷ Err too_long ∷ [])
    ≡ Ok (codes "a") ∷ Err (codes "line 12 of this source can't be read: a month of it is none, or two")
    ∷ Err (codes "this source has more than 16,777,216 bytes in plain form") ∷ []
unfolding digits line_words
worked_forms = refl

-- a source ends with a line feed, if it has bytes
worked_cut : map is_cut ([] ∷ (10 ∷ []) ∷ (97 ∷ 10 ∷ []) ∷ (97 ∷ 13 ∷ 10 ∷ []) ∷ (97 ∷ []) ∷ (10 ∷ 97 ∷ []) ∷ (97 ∷ 10 ∷ 13 ∷ []) ∷ [])
    ≡ false ∷ false ∷ false ∷ false ∷ true ∷ true ∷ true ∷ []
worked_cut = refl

-- at first sight: a compiled file before all, and of a text that was cut short the line in which it was
worked_looks : map first_refusal (codes "TZif2" ∷ (codes "# a" ++ 10 ∷ codes "R b") ∷ codes "R" ∷ (codes "R b" ++ 10 ∷ []) ∷ [] ∷ [])
    ≡ Some (codes "this is a compiled file, and a source is wanted")
    ∷ Some (codes "line 2 of this source can't be read: the source ends in the middle of it")
    ∷ Some (codes "line 1 of this source can't be read: the source ends in the middle of it") ∷ None ∷ None ∷ []
unfolding first_refusal line_words digits
worked_looks = refl

-- a text that is refused at first sight has no plain form, is read as no source, and is told so
refused_form : (text why : List ℕ) → first_refusal text ≡ Some why → form_of text ≡ Err why
unfolding form_of
refused_form text why is = ap (λ o. unless o (form_due (plain_of text))) is

refused_source : (text why : List ℕ) (source : OpenSource) → first_refusal text ≡ Some why → (IsRead text source → ⊥) × (IsReadPlainly text source → ⊥)
refused_source text why source is = (λ read. some_none (sym is ∙ read.0), λ read. some_none (sym is ∙ read.0))
  where
    some_none : let some : Option (List ℕ) = Some why in some ≡ None → ⊥
    some_none e = cc

refused_told : (text why words : List ℕ) → first_refusal text ≡ Some why → (IsUnread text words → why ≡ words) × (IsUnreadPlainly text words → why ≡ words)
refused_told text why words is = (
  λ unread. elim unread [
    | inl told ↦ same_Some why words (sym is ∙ told)
    | inr other ↦ absurd (some_none (sym is ∙ other.0))
  ],
  λ unread. elim unread [
    | inl told ↦ same_Some why words (sym is ∙ told)
    | inr other ↦ absurd (some_none (sym is ∙ other.0))
  ],
)
  where
    some_none : let some : Option (List ℕ) = Some why in some ≡ None → ⊥
    some_none e = cc

-- and any other text is told by its fault, and has the plain form of its lines
form_of_text : (text : List ℕ) → first_refusal text ≡ None → form_of text ≡ form_due (plain_of text)
unfolding form_of
form_of_text text is = ap (λ o. unless o (form_due (plain_of text))) is

fault_told : (text why : List ℕ) → first_refusal text ≡ None → IsUnread text why → HasFault text why
fault_told text why is unread = elim unread [
  | inl told ↦ absurd (none_some (sym is ∙ told))
  | inr other ↦ other.1
]
  where
    none_some : let some : Option (List ℕ) = Some why in None ≡ some → ⊥
    none_some e = cc
