-- Which fault of a request comes first, and which dates leave the years, at worked rows.
use Rattle.std.{proofs.Common.{◌≡◌, ℕ, List, [], ◌∷◌, map, Some, None, Result, Ok, Err, refl, ℤ, pos, negsuc, true, false}, specs.Fmt.{digits}, specs.Prelude.{codes}, specs.Str.{is_utf8, chars}}
use lib.Utf8.{encode}
use Rattle.zone_source.specs.{Faults.{not_text, source_fault}, Lines.{lines_of}, LineLists.{ended}}
use Rattle.zone_spans.specs.{Lines.{Rulesets}, Schedules.{total_at, totals_of}, declared.fault.SpanFault.{SpanFault}, declared.span.FixedTimespanSet.{FixedTimespanSet}}
use Rattle.zone_spans.specs.declared.fault.SpanFault.TheVariants as span
use Rattle.zone_answers.specs.{FaultLines.{fault_line}, Told.{fault_told, reading_told}, declared.error.Side.TheVariants.{Source, Requests}}
use Rattle.zone_answers.specs.Faults.{are_in_years, fault, fault_with, has_dates, found_refusal, request_refusal, first_refused, of_source, request_not_text, bad_request, bad_zone, range}
use Rattle.zone_answers.specs.{Found.{Found, Reading, bad_schedule, found_of, found_under, offset_range, rules_end, unknown_zone}, Requests.{local, request_of, request_with, nanoseconds_in}}
use Rattle.zone_answers.specs.declared.error.AnswerError.TheVariants as error
use Rattle.zone_answers.specs.declared.error.ReadingError.TheVariants as reading

-- a set of one offset
abbrev one_offset : ℤ → Result FixedTimespanSet SpanFault
one_offset offset = Ok (record { first = record { utc_offset = offset; dst_offset = pos 0; name = codes "T" }; rest = [] })

-- each name finds a zone of that offset
abbrev everywhere : ℤ → List ℕ → Found
everywhere offset name = found_of (one_offset offset)

-- the last and the first nanosecond of the years -9999 to 9999, at UTC and at offsets to each side: both dates count
dates_at_the_ends : map (λ (row : ℤ × ℤ). are_in_years row.0 row.1)
    ((pos 253402300799999999999, pos 0) ∷ (pos 253402300800000000000, pos 0) ∷ (pos 253402300799999999999, pos 1)
    ∷ (pos 253402300800000000000, negsuc 5399) ∷ (pos 253402300799999999999, negsuc 5399)
    ∷ (negsuc 377705116799999999999, pos 0) ∷ (negsuc 377705116800000000000, pos 0) ∷ (negsuc 377705116799999999999, negsuc 0)
    ∷ (negsuc 377705116800000000000, pos 5400) ∷ (negsuc 377705116799999999999, pos 5400) ∷ [])
    ≡ true ∷ false ∷ false ∷ false ∷ true ∷ true ∷ false ∷ false ∷ false ∷ true ∷ []
dates_at_the_ends = refl

-- an offset of 26 hours comes before a date out of the years
far_zone_first : map (λ (offset : ℤ). request_refusal (everywhere offset) 1 (codes "at A 999999999999999999999999999999"))
    (pos 93600 ∷ pos 93599 ∷ []) ≡ Some (bad_zone 1 offset_range) ∷ Some (range 1) ∷ []
unfolding request_refusal is_utf8 chars encode request_of request_with nanoseconds_in has_dates total_at totals_of
far_zone_first = refl

-- a local time is refused at a zone as an instant is, and never for its date
local_refusals : map (found_refusal 3 (local (codes "A") (pos 999999999999999999999999999999)))
    (Err unknown_zone ∷ found_of (Err span.DayRange) ∷ Err rules_end ∷ map found_of
    (one_offset (pos 93600) ∷ one_offset (negsuc 93599) ∷ one_offset (pos 93599) ∷ []))
    ≡ Some (bad_zone 3 unknown_zone) ∷ Some (bad_zone 3 (bad_schedule span.DayRange)) ∷ Some (bad_zone 3 rules_end)
    ∷ Some (bad_zone 3 offset_range) ∷ Some (bad_zone 3 offset_range) ∷ None ∷ []
unfolding has_dates totals_of
local_refusals = refl

-- whatever the rules, a name that finds no lines finds no zone
no_lines : (read : Reading) (rulesets : Rulesets) → found_under read rulesets None ≡ Err unknown_zone
no_lines read rulesets = refl

-- a line that is no text, one in no form, and one that names no zone
before_a_zone_is_found : map (request_refusal (λ name. Err unknown_zone) 7) ((97 ∷ 255 ∷ []) ∷ codes "what A 0" ∷ codes "at A 0" ∷ [])
    ≡ Some (request_not_text 7) ∷ Some (bad_request 7) ∷ Some (bad_zone 7 unknown_zone) ∷ []
unfolding request_refusal is_utf8 chars encode request_of request_with nanoseconds_in
before_a_zone_is_found = refl

-- the first of two faults, with the number of its line
first_of_two : first_refused (everywhere (pos 0)) 1 (codes "at A 0" ∷ codes "what" ∷ (255 ∷ []) ∷ []) ≡ Some (bad_request 2)
unfolding request_refusal is_utf8 chars encode request_of request_with nanoseconds_in has_dates total_at totals_of
first_of_two = refl

-- the source's fault comes before those of the requests
source_first : fault (255 ∷ []) (codes "what") ≡ Some (of_source (not_text 1))
unfolding fault_with source_fault lines_of is_utf8 chars encode
source_first = refl

-- why a zone has no schedule, in place of a schedule
no_schedule : map (λ fault. request_refusal (λ name. found_of (Err fault)) 4 (codes "at A 0")) (span.MissingUntil ∷ span.DayRange ∷ [])
    ≡ Some (bad_zone 4 (bad_schedule span.MissingUntil)) ∷ Some (bad_zone 4 (bad_schedule span.DayRange)) ∷ []
unfolding request_refusal is_utf8 chars encode request_of request_with nanoseconds_in
no_schedule = refl

-- the line of each fault
lines_of_faults : map fault_line
    (of_source (not_text 5) ∷ request_not_text 1 ∷ bad_request 2 ∷ bad_zone 3 unknown_zone ∷ bad_zone 10 offset_range
    ∷ bad_zone 4 rules_end ∷ range 99 ∷ [])
    ≡ codes "source 5: not text" ∷ codes "request 1: not text" ∷ codes "request 2: request" ∷ codes "request 3: unknown zone"
    ∷ codes "request 10: offset range" ∷ codes "request 4: rules end" ∷ codes "request 99: range" ∷ []
unfolding digits
lines_of_faults = refl

-- the line of each fault of a schedule
lines_of_schedules : map (λ fault. fault_line (bad_zone 1 (bad_schedule fault)))
    (span.UnknownRuleset ∷ span.MissingUntil ∷ span.YearRange ∷ span.RuleYears ∷ span.DayRange ∷ span.NoStandardSpan ∷ [])
    ≡ codes "request 1: schedule UnknownRuleset" ∷ codes "request 1: schedule MissingUntil" ∷ codes "request 1: schedule YearRange"
    ∷ codes "request 1: schedule RuleYears" ∷ codes "request 1: schedule DayRange" ∷ codes "request 1: schedule NoStandardSpan" ∷ []
unfolding digits
lines_of_schedules = refl

each_line_ends : ended (codes "a" ∷ codes "bc" ∷ []) ≡ 97 ∷ 10 ∷ 98 ∷ 99 ∷ 10 ∷ []
each_line_ends = refl

-- the code's errors, each with its own fault and number; want of memory is none, a schedule's neither
errors : map fault_told
    (error.NotText Source 1 ∷ error.NotText Requests 2 ∷ error.Request 3 ∷ error.UnknownZone 4 ∷ error.Schedule 5 span.DayRange
    ∷ error.Schedule 6 span.NoMemory ∷ error.OffsetRange 7 ∷ error.Range 8 ∷ error.NoMemory ∷ [])
    ≡ Some (of_source (not_text 1)) ∷ Some (request_not_text 2) ∷ Some (bad_request 3)
    ∷ Some (bad_zone 4 unknown_zone) ∷ Some (bad_zone 5 (bad_schedule span.DayRange)) ∷ None ∷ Some (bad_zone 7 offset_range) ∷ Some (range 8) ∷ None ∷ []
errors = refl

readings : map reading_told (reading.Answer (error.Range 8) ∷ reading.Answer error.NoMemory ∷ reading.RulesEnd 9 ∷ [])
    ≡ Some (range 8) ∷ None ∷ Some (bad_zone 9 rules_end) ∷ []
readings = refl
