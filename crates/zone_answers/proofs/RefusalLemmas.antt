-- Why a request line is refused, and the line that answers one that is not.
use Rattle.std.{proofs.Common.{◌≡◌, ℕ, ℤ, List, [], true, false, cond, Option, Some, None, MatchOption, Ok, Err, sym, ap, ◌∙◌}, specs.Option.{option_map_or}, specs.Str.{is_utf8}, proofs.lemmas.Option.{none-some}}
use Rattle.zone_answers.specs.{AskedLaws.{Asks}, Due.{answer_line, answer_text, shown_at, shown_for, shown_found}, Faults.{Fault, bad_request, request_not_text, dates_refusal, found_refusal, request_refusal, zone_refusal}, Found.{Found}}
use Rattle.zone_answers.specs.{Requests.{Request, name_of, request_of}, Told.{TellsReading, reading_told}, declared.error.AnswerError.TheVariants.{NoMemory}, declared.error.ReadingError.{ReadingError}, declared.error.ReadingError.TheVariants.{Answer}}

pub not_text_refused : (names : List ℕ → Found) (n : ℕ) (line : List ℕ) → is_utf8 line ≡ false
    → request_refusal names n line ≡ Some (request_not_text n)
unfolding request_refusal
not_text_refused names n line is =
    ap (λ b. cond b (option_map_or (λ request. found_refusal n request (names (name_of request))) (request_of line)
    (Some (bad_request n))) (Some (request_not_text n))) is

-- the refusal of a text, by what it reads as
refusal_read : (names : List ℕ → Found) (n : ℕ) (line : List ℕ) (read : Option Request) → is_utf8 line ≡ true → request_of line ≡ read →
    request_refusal names n line
    ≡ option_map_or (λ request. found_refusal n request (names (name_of request))) read (Some (bad_request n))
unfolding request_refusal
refusal_read names n line read is reads =
    (λ i. cond (is i) (option_map_or (λ request. found_refusal n request (names (name_of request))) (reads i) (Some (bad_request n)))
    (Some (request_not_text n)))

pub bad_request_refused : (names : List ℕ → Found) (n : ℕ) (line text : List ℕ) → is_utf8 line ≡ true → text ≡ line
    → None ≡ request_of text →
    request_refusal names n line ≡ Some (bad_request n)
bad_request_refused names n line text is same reads = refusal_read names n line None is (ap request_of (sym same) ∙ sym reads)

pub refusal_is : (names : List ℕ → Found) (n : ℕ) (line : List ℕ) (request : Request) → Asks request_of line request →
    request_refusal names n line ≡ found_refusal n request (names (name_of request))
refusal_is names n line request is = refusal_read names n line (Some request) is.text is.reads

-- at a zone that was found it is that of the dates
pub dates_are : (names : List ℕ → Found) (n : ℕ) (line : List ℕ) (request : Request) (total : ℤ → ℤ) → Asks request_of line request
    → names (name_of request) ≡ Ok total → request_refusal names n line ≡ dates_refusal n request total
dates_are names n line request total is found = refusal_is names n line request is ∙ ap (found_refusal n request) found

pub shown_is : (names : List ℕ → Found) (line : List ℕ) (request : Request) (total : ℤ → ℤ) → Asks request_of line request
    → names (name_of request) ≡ Ok total → shown_for names line ≡ shown_at total request
unfolding shown_for
shown_is names line request total is found =
    ap (λ o. option_map_or (λ request. shown_found request (names (name_of request))) o []) is.reads ∙ ap (shown_found request) found

pub line_is : (names : List ℕ → Found) (line : List ℕ) (request : Request) (total : ℤ → ℤ) → Asks request_of line request
    → names (name_of request) ≡ Ok total → answer_line names line ≡ answer_text (shown_at total request)
line_is names line request total is found = ap answer_text (shown_is names line request total is found)

-- why a zone can't be asked is why the request is refused
pub zone_refused : (found : Found) (n : ℕ) (request : Request) (error : ReadingError) → TellsReading (zone_refusal n found) error
    → TellsReading (found_refusal n request found) error
zone_refused (Err cause) n request error tells = tells
zone_refused (Ok total) n request error tells = by_told (reading_told error) tells
  where
    by_told : (told : Option Fault) → MatchOption told (error ≡ Answer NoMemory) (λ f. None ≡ Some f)
        → MatchOption told (error ≡ Answer NoMemory) (λ f. dates_refusal n request total ≡ Some f)
    by_told None is = is
    by_told (Some f) is = absurd (none-some _ is)
