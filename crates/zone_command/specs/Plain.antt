-- What is answered to the requests of `zone_answers` over a table: to 2099 what that program answers, from 2100 on what goes on for ever.
use Rattle.std.specs.{Prelude.{ℕ, Bool, List, [], ◌∷◌, ◌++◌, Option, Some, None, Ok, Err, ℤ, pos, int_lt, codes, if◌then◌else◌}, Str.{is_utf8}}
use Rattle.zone_answers.specs.{Due.{answer_text, shown_at}, Faults.{has_dates}, Found.{Cause, Found, Reading, found_in_table, to_2099, unknown_zone, bad_schedule, offset_range, rules_end}, Requests.{Request, at, local, name_of, request_of}}
use Rattle.zone_command.specs.{Answers.{Answer}, Refusals.{fault_words, name_words}, EverReadings.{for_ever}, Streams.{is_fault, response_of}, Views.{range_words, schedule_words, unknown_words}}
use Rattle.zone_words.specs.Replies.{Replies}
use Rattle.zone_texts.specs.declared.fault.ReplyFault.TheVariants.{OutOfYears, Untold}
use Rattle.zone_table.specs.declared.table.Table.{Table}

-- 2100-01-01 00:00:00, in nanoseconds
abbrev pub year_2100 : ℕ
year_2100 = 4102444800000000000

-- the instant by UTC, or the local time, lies before that
abbrev pub is_to_2099 : Request → Bool
is_to_2099 (at name instant) = int_lt instant (pos year_2100)
is_to_2099 (local name time) = int_lt time (pos year_2100)

abbrev pub reading_for : Request → Reading
reading_for request = if is_to_2099 request then to_2099 else for_ever

-- why the zone of a name can't be asked
abbrev pub cause_words : Table → List ℕ → Cause → List ℕ
cause_words table name unknown_zone = unknown_words table name
cause_words table name (bad_schedule fault) = schedule_words fault
cause_words table name offset_range = range_words
cause_words table name rules_end = fault_words Untold

-- the answer to a request at a zone of these totals
unfoldable pub shown_answer : Request → (ℤ → ℤ) → Answer
shown_answer request total =
    if has_dates total request then Ok (answer_text (shown_at total request)) else Err (name_words (name_of request) (fault_words OutOfYears))

-- the answer to a request whose name finds this
abbrev pub found_answer : Table → Request → Found → Answer
found_answer table request (Ok total) = shown_answer request total
found_answer table request (Err cause) = Err (name_words (name_of request) (cause_words table (name_of request) cause))

abbrev pub read_answer : Reading → Table → Request → Answer
read_answer read table request = found_answer table request (found_in_table read table (name_of request))

-- the answer to what a line asks
abbrev pub asked_answer : Table → Option Request → Answer
asked_answer table None = Err (codes "a request is at NAME N, or local NAME YYYY-MM-DD hh:mm:ss.fffffffff")
asked_answer table (Some request) = read_answer (reading_for request) table request

-- the answer to a line
unfoldable pub plain_answer : Table → List ℕ → Answer
plain_answer table line = if is_utf8 line then asked_answer table (request_of line) else Err (codes "a request is text in UTF-8")

abbrev pub plain_replies : Table → Replies
plain_replies table = record {
  response = λ line. response_of (plain_answer table line);
  is_fault = λ line. is_fault (plain_answer table line);
  to_long = codes "? a request of more than 4,096 bytes" ++ 10 ∷ [];
}
