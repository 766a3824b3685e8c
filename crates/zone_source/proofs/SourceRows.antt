-- Lines, statuses and the first fault of a source, at worked rows.
use Rattle.std.{proofs.Common.{◌≡◌, ℕ, List, [], ◌∷◌, ◌++◌, map, Some, None, Option, refl, ap}, specs.Fmt.{digits}, specs.Option.{option_or}, specs.Prelude.{codes}, specs.Str.{is_utf8, chars}}
use Rattle.zone_source.specs.{FaultLines.{source_line}, Faults.{SourceFault, source_fault, first_line_refused, kind_of, line_refusal, not_text, bad_line, bad_join}, Lines.{lines_of}, Statuses.{code_of, status_of}}
use Rattle.zone_source.specs.declared.{error.BuildKind.TheVariants.{SurpriseContinuationLine, UnknownRuleset, DuplicateLink, DuplicateZone}, running.Status.TheVariants.{Done, Words, Fault, Read, Write, NoMemory, TooLong}}
use Rattle.zone_outside.specs.declared.outside.ReadEnd.TheVariants as end
use Rattle.zone_table.specs.{Refusals.{surprise_continuation_line, unknown_ruleset, duplicate_link, duplicate_zone}, Faults.{refused}}
use Rattle.zone_table.specs.declared.fault.FaultKind.TheVariants as kind

-- each line feed ends a line, and so does the end of a text that has more than nothing after the last one
cut_at_line_feeds : map lines_of
    ([] ∷ (10 ∷ []) ∷ (97 ∷ []) ∷ (97 ∷ 10 ∷ []) ∷ (97 ∷ 10 ∷ 98 ∷ []) ∷ (97 ∷ 10 ∷ 10 ∷ []) ∷ (10 ∷ 97 ∷ []) ∷ [])
    ≡ [] ∷ ([] ∷ []) ∷ ((97 ∷ []) ∷ []) ∷ ((97 ∷ []) ∷ []) ∷ ((97 ∷ []) ∷ (98 ∷ []) ∷ []) ∷ ((97 ∷ []) ∷ [] ∷ [])
    ∷ ([] ∷ (97 ∷ []) ∷ []) ∷ []
unfolding lines_of
cut_at_line_feeds = refl

-- one carriage return at the end of a line is dropped, and no other
carriage_returns : map lines_of
    ((97 ∷ 13 ∷ 10 ∷ []) ∷ (97 ∷ 13 ∷ []) ∷ (97 ∷ 13 ∷ 13 ∷ 10 ∷ []) ∷ (97 ∷ 13 ∷ 98 ∷ 10 ∷ []) ∷ (13 ∷ 10 ∷ []) ∷ [])
    ≡ ((97 ∷ []) ∷ []) ∷ ((97 ∷ []) ∷ []) ∷ ((97 ∷ 13 ∷ []) ∷ []) ∷ ((97 ∷ 13 ∷ 98 ∷ []) ∷ []) ∷ ([] ∷ []) ∷ []
unfolding lines_of
carriage_returns = refl

codes_in_order : map code_of (Done ∷ Words ∷ Fault ∷ Read ∷ Write ∷ NoMemory ∷ TooLong ∷ []) ≡ 0 ∷ 1 ∷ 2 ∷ 3 ∷ 4 ∷ 5 ∷ 6 ∷ []
codes_in_order = refl

unread_texts : map status_of (end.Failed ∷ end.NoMemory ∷ end.TooLong ∷ []) ≡ Read ∷ NoMemory ∷ TooLong ∷ []
unread_texts = refl

-- the first line is line 1
bytes_that_are_no_text : source_fault (255 ∷ []) ≡ Some (not_text 1)
unfolding source_fault lines_of is_utf8 chars
bytes_that_are_no_text = refl

-- the line after one that is not refused has the next number
second_line : (line : List ℕ) → line_refusal [] 1 line ≡ None → first_line_refused [] 1 (line ∷ (255 ∷ []) ∷ []) ≡ Some (not_text 2)
unfolding is_utf8 chars
second_line line accepted = ap (λ (refused : Option SourceFault). option_or refused (Some (not_text 2))) accepted

-- each refusal to join by its kind, and a line that reads no further by its own
kinds_of_refusals : map kind_of (surprise_continuation_line ∷ unknown_ruleset (codes "a") ∷ duplicate_link (codes "a") ∷ duplicate_zone ∷ [])
    ≡ SurpriseContinuationLine ∷ UnknownRuleset ∷ DuplicateLink ∷ DuplicateZone ∷ []
kinds_of_refusals = refl

-- the line of each fault of a source
lines_of_faults : map source_line
    (not_text 3 ∷ bad_join 1 SurpriseContinuationLine ∷ bad_join 20 UnknownRuleset ∷ bad_join 7 DuplicateLink ∷ bad_join 999 DuplicateZone ∷ [])
    ≡ codes "source 3: not text" ∷ codes "source 1: build SurpriseContinuationLine" ∷ codes "source 20: build UnknownRuleset"
    ∷ codes "source 7: build DuplicateLink" ∷ codes "source 999: build DuplicateZone" ∷ []
unfolding digits
lines_of_faults = refl

-- the line of each kind of fault that a line has by itself
lines_of_bad_lines : map (λ k. source_line (bad_line 12 (refused k (codes "a"))))
    (kind.FailedYearParse ∷ kind.FailedMonthParse ∷ kind.FailedWeekdayParse ∷ kind.InvalidLineType ∷ kind.TypeColumnContainedNonHyphen
    ∷ kind.CouldNotParseSaving ∷ kind.InvalidDaySpec ∷ kind.InvalidTimeSpecAndType ∷ kind.NonWallClockInTimeSpec ∷ [])
    ≡ map (λ name. codes "source 12: line " ++ name)
    (codes "FailedYearParse" ∷ codes "FailedMonthParse" ∷ codes "FailedWeekdayParse" ∷ codes "InvalidLineType"
    ∷ codes "TypeColumnContainedNonHyphen" ∷ codes "CouldNotParseSaving" ∷ codes "InvalidDaySpec" ∷ codes "InvalidTimeSpecAndType"
    ∷ codes "NonWallClockInTimeSpec" ∷ [])
unfolding digits
lines_of_bad_lines = refl
