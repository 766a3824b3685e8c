-- A request is answered with the bytes of `zone_answers`, by the zones that are read for it.
use Rattle.std.{proofs.Common.{◌≡◌, ℕ, Bool, true, false, cond, List, [], Option, Some, None, MatchOption, Ok, Err, refl, sym, subst}, specs.Option.{option_map_or}, specs.Prelude.{codes}, specs.Str.{is_utf8}}
use Rattle.zone_answers.specs.{Due.{answer_line, answer_text, shown_at, shown_for, shown_found}, Faults.{Fault, bad_request, range, request_not_text, found_refusal, has_dates, request_refusal}, Found.{Found, found_in_table}}
use Rattle.zone_answers.specs.Requests.{Request, name_of, request_of}
use Rattle.zone_command.specs.{Answers.{Answer}, Refusals.{fault_words, name_words}, Plain.{asked_answer, found_answer, plain_answer, reading_for, shown_answer}, Streams.{is_fault}}
use Rattle.zone_texts.specs.declared.fault.ReplyFault.TheVariants.{OutOfYears}
use Rattle.zone_table.specs.declared.table.Table.{Table}

-- it is the line of `zone_answers` where that refuses nothing, and else a fault
abbrev pub Matches : Option Fault → List ℕ → Answer → Type 0
Matches refusal text answer = MatchOption refusal (answer ≡ Ok text) (λ fault. is_fault answer ≡ true)

by_dates : (b : Bool) (fault : Fault) (text words : List ℕ) → Matches (cond b None (Some fault)) text (cond b (Ok text) (Err words))
by_dates true fault text words = refl
by_dates false fault text words = refl

by_found : (table : Table) (request : Request) (found : Found)
    → Matches (found_refusal 1 request found) (answer_text (shown_found request found)) (found_answer table request found)
unfolding shown_answer
by_found table request (Err cause) = refl
by_found table request (Ok total) =
    by_dates (has_dates total request) (range 1) (answer_text (shown_at total request)) (name_words (name_of request) (fault_words OutOfYears))

-- for the request of a line
pub as_zone_answers : (table : Table) (line : List ℕ) (request : Request) → request_of line ≡ Some request →
    Matches (request_refusal (found_in_table (reading_for request) table) 1 line) (answer_line (found_in_table (reading_for request) table) line)
    (plain_answer table line)
unfolding plain_answer request_refusal shown_for
as_zone_answers table line request reads = by_text (is_utf8 line)
  where
    names : List ℕ → Found
    names = found_in_table (reading_for request) table

    by_text : (b : Bool) → Matches
        (cond b (option_map_or (λ asked. found_refusal 1 asked (names (name_of asked))) (request_of line) (Some (bad_request 1))) (Some (request_not_text 1)))
        (answer_text (option_map_or (λ asked. shown_found asked (names (name_of asked))) (request_of line) []))
        (cond b (asked_answer table (request_of line)) (Err (codes "a request is text in UTF-8")))
    by_text false = refl
    by_text true =
        subst (λ o. Matches (option_map_or (λ asked. found_refusal 1 asked (names (name_of asked))) o (Some (bad_request 1)))
        (answer_text (option_map_or (λ asked. shown_found asked (names (name_of asked))) o [])) (asked_answer table o))
        (sym reads) (by_found table request (names (name_of request)))
