-- Answers and refusals at the zones of a table, and over the source whose table it is.
use Rattle.std.proofs.{Common.{◌≡◌, ℕ, suc, ℤ, Bool, true, false, cond, List, [], ◌∷◌, map, Option, Some, None, MatchOption, option_map, Result, Ok, Err, refl, sym, ap, subst, ◌∙◌}, lemmas.Option.{none-some}}
use Rattle.std.specs.{List.{flat_map}, Option.{option_or, option_map_or}, Str.{is_utf8}}
use Rattle.zone_table.specs.{declared.fault.FaultKind.{FaultKind}, Tables.{IsTableOf}, declared.table.Table.{Table}, declared.zone.ZoneInfo.{ZoneInfo}}
use Rattle.zone_table.specs.Faults as line
use Rattle.zone_source.specs.{Faults.{SourceFault, source_fault, bad_line}, Lines.{lines_of}, Zones.{values_of, zone_in, rules_in}}
use Rattle.zone_spans.specs.{Compiled.{compiled}, Lines.{Rulesets}, Schedules.{is_in_offset_range, total_at, totals_of}, declared.fault.SpanFault.{SpanFault}, declared.span.FixedTimespanSet.{FixedTimespanSet}}
use Rattle.zone_answers.specs.{Due.{answer_line, answer_lines_with, shown_for, shown_with}, Faults.{Fault, of_source, request_not_text, bad_request, bad_zone, range, has_dates, found_refusal, request_refusal, first_refused, source_refusal, fault, fault_with}}
use Rattle.zone_answers.specs.{Found.{Reading, found_in, found_in_table, found_of, found_under, given_to_2099, offset_range, rules_end, to_2099}, Requests.{Request, name_of, request_of}, Told.{fault_told, TellsOf, TellsReading}}
use Rattle.zone_answers.specs.declared.error.{AnswerError.{AnswerError}, AnswerError.TheVariants.{NoMemory}, ReadingError.{ReadingError}, ReadingError.TheVariants.{Answer, RulesEnd}}
use Rattle.zone_run.specs.FoundLaws as zones

-- names find in the table of a source what they find in the source
found_is : (read : Reading) (table : Table) (source : List ℕ) → IsTableOf table (values_of source)
    → found_in_table read table ≡ found_in read source
unfolding found_in_table
found_is read table source is = λ i name. zones.found_is read table source is i name

-- the answers at the zones of the table are the answers over the source
pub lines_are : (read : Reading) (table : Table) (source requests : List ℕ) → IsTableOf table (values_of source) →
    map (answer_line (found_in_table read table)) (lines_of requests) ≡ answer_lines_with read source requests
unfolding answer_lines_with
lines_are read table source requests is = ap (λ names. map (answer_line names) (lines_of requests)) (found_is read table source is)

-- and so is all that is shown
pub shown_are : (read : Reading) (table : Table) (source requests : List ℕ) → IsTableOf table (values_of source) →
    flat_map (shown_for (found_in_table read table)) (lines_of requests) ≡ shown_with read source requests
unfolding shown_with
shown_are read table source requests is = ap (λ names. flat_map (shown_for names) (lines_of requests)) (found_is read table source is)

-- over a source without a fault, the first fault is the first refusal at the zones of its table
pub fault_is : (read : Reading) (table : Table) (source requests : List ℕ) → source_fault source ≡ None → IsTableOf table (values_of source) →
    first_refused (found_in_table read table) 1 (lines_of requests) ≡ fault_with read source requests
unfolding fault_with
fault_is read table source requests sound is =
    ap (λ names. first_refused names 1 (lines_of requests)) (found_is read table source is)
    ∙ ap (λ o. option_or (option_map of_source o) (first_refused (found_in read source) 1 (lines_of requests))) (sym sound)

-- the fault of a source comes first
pub fault_first : (read : Reading) (source requests : List ℕ) (error : AnswerError) → TellsOf (source_refusal source) error
    → TellsReading (fault_with read source requests) (Answer error)
unfolding fault_with
fault_first read source requests error h = by_told (fault_told error) h
  where
    by_told : (told : Option Fault) → MatchOption told (error ≡ NoMemory) (λ f. source_refusal source ≡ Some f) →
        MatchOption told (Answer error ≡ Answer NoMemory)
        (λ f. option_or (source_refusal source) (first_refused (found_in read source) 1 (lines_of requests)) ≡ Some f)
    by_told None h = ap Answer h
    by_told (Some f) h = ap (λ o. option_or o (first_refused (found_in read source) 1 (lines_of requests))) h

-- an error tells of what is equal to what it tells of
pub told_along : (error : ReadingError) (first second : Option Fault) → first ≡ second → TellsReading first error → TellsReading second error
told_along error first second e h = subst (λ o. TellsReading o error) e h

-- ---- to 2099

abbrev answer_in : ReadingError → AnswerError
answer_in (Answer error) = error
answer_in (RulesEnd n) = NoMemory

-- an error that is told where zones are read in any way is told so
pub told_today : (found : Option Fault) (error : AnswerError) → TellsReading found (Answer error) → TellsOf found error
told_today found error tells = by_told (fault_told error) tells
  where
    by_told : (told : Option Fault) → MatchOption told (Answer error ≡ Answer NoMemory) (λ f. found ≡ Some f)
        → MatchOption told (error ≡ NoMemory) (λ f. found ≡ Some f)
    by_told None h = ap answer_in h
    by_told (Some f) h = h

-- a fault that isn't that a zone's rules end
IsToday : Option Fault → Type 0
IsToday (Some (bad_zone n rules_end)) = ⊥
IsToday found = Unit {0}

today_found : (n : ℕ) (request : Request) (lines : Option (List ZoneInfo)) (rulesets : Rulesets)
    → IsToday (found_refusal n request (found_under to_2099 rulesets lines))
unfolding IsToday given_to_2099
today_found n request None rulesets = tt
today_found n request (Some lines) rulesets = by_result (compiled rulesets lines)
  where
    by_dates : (b : Bool) → IsToday (cond b None (Some (range n)))
    by_dates true = tt
    by_dates false = tt

    by_range : (b : Bool) (total : ℤ → ℤ) → IsToday (found_refusal n request (cond b (Ok total) (Err offset_range)))
    by_range true total = by_dates (has_dates total request)
    by_range false total = tt

    by_result : (result : Result FixedTimespanSet SpanFault) → IsToday (found_refusal n request (found_of result))
    by_result (Err fault) = tt
    by_result (Ok set) = by_range (is_in_offset_range (totals_of set)) (total_at (totals_of set))

today_refused : (source : List ℕ) (n : ℕ) (line : List ℕ) → IsToday (request_refusal (found_in to_2099 source) n line)
unfolding IsToday request_refusal found_in
today_refused source n line = by_text (is_utf8 line) (request_of line)
  where
    by_text : (b : Bool) (read : Option Request) → IsToday (cond b
        (option_map_or (λ request. found_refusal n request (found_under to_2099 (rules_in source) (zone_in source (name_of request)))) read (Some (bad_request n)))
        (Some (request_not_text n)))
    by_text false read = tt
    by_text true None = tt
    by_text true (Some request) = today_found n request (zone_in source (name_of request)) (rules_in source)

today_or : (first second : Option Fault) → IsToday first → IsToday second → IsToday (option_or first second)
unfolding IsToday
today_or None second a b = b
today_or (Some f) second a b = a

today_first : (source : List ℕ) (n : ℕ) (lines : List (List ℕ)) → IsToday (first_refused (found_in to_2099 source) n lines)
unfolding IsToday
today_first source n [] = tt
today_first source n (line ∷ lines) = today_or (request_refusal (found_in to_2099 source) n line) _ (today_refused source n line) (today_first source (suc n) lines)

-- to 2099 no rules end
pub never_ends : (source requests : List ℕ) (n : ℕ) → fault source requests ≡ Some (bad_zone n rules_end) → ⊥
unfolding IsToday fault_with
never_ends source requests n is =
    subst IsToday is (today_or (source_refusal source) _ (of_sources (source_fault source)) (today_first source 1 (lines_of requests)))
  where
    of_sources : (o : Option SourceFault) → IsToday (option_map of_source o)
    of_sources None = tt
    of_sources (Some f) = tt

-- the error of a line is told with its number
pub line_told : (n : ℕ) (kind : FaultKind) (found : Option line.Fault) (error : AnswerError)
    → Some kind ≡ option_map (λ f. f.kind) found →
    fault_told error ≡ option_map (λ f. of_source (bad_line n f)) found →
    MatchOption (option_map (bad_line n) found) (error ≡ NoMemory) (λ f. fault_told error ≡ Some (of_source f))
line_told n kind None error is told = absurd (none-some _ (sym is))
line_told n kind (Some f) error is told = told

pub none_told : (n : ℕ) (found : Option line.Fault) → None ≡ option_map (λ f. f.kind) found →
    MatchOption (option_map (bad_line n) found) (NoMemory ≡ NoMemory) (λ f. fault_told NoMemory ≡ Some (of_source f))
none_told n None is = refl
none_told n (Some f) is = absurd (none-some _ is)
