-- Why a request line is refused, and the line that answers one that is not.
use Rattle.std.{proofs.Common.{◌≡◌, ℕ, ℤ, List, [], true, false, cond, Option, Some, None, sym, ap, ◌∙◌}, specs.Option.{option_map_or}, specs.Str.{is_utf8}}
use Rattle.zone_answers.specs.{AskedLaws.{Asks}, Due.{answer_text, shown_at}, Requests.{Request}}
use Rattle.zone_file_answers.specs.{Due.{answer_line}, Faults.{bad_request, not_text, dates_refusal, request_refusal}, Requests.{request_of}}

pub not_text_refused : (total : ℤ → ℤ) (n : ℕ) (line : List ℕ) → is_utf8 line ≡ false → request_refusal total n line ≡ Some (not_text n)
unfolding request_refusal
not_text_refused total n line is =
    ap (λ b. cond b (option_map_or (dates_refusal total n) (request_of line) (Some (bad_request n))) (Some (not_text n))) is

-- the refusal of a text, by what it reads as
refusal_read : (total : ℤ → ℤ) (n : ℕ) (line : List ℕ) (read : Option Request) → is_utf8 line ≡ true → request_of line ≡ read
    → request_refusal total n line ≡ option_map_or (dates_refusal total n) read (Some (bad_request n))
unfolding request_refusal
refusal_read total n line read is reads =
    (λ i. cond (is i) (option_map_or (dates_refusal total n) (reads i) (Some (bad_request n))) (Some (not_text n)))

pub bad_request_refused : (total : ℤ → ℤ) (n : ℕ) (line text : List ℕ) → is_utf8 line ≡ true → text ≡ line
    → None ≡ request_of text → request_refusal total n line ≡ Some (bad_request n)
bad_request_refused total n line text is same reads = refusal_read total n line None is (ap request_of (sym same) ∙ sym reads)

pub refusal_is : (total : ℤ → ℤ) (n : ℕ) (line : List ℕ) (request : Request) → Asks request_of line request
    → request_refusal total n line ≡ dates_refusal total n request
refusal_is total n line request is = refusal_read total n line (Some request) is.text is.reads

pub line_is : (total : ℤ → ℤ) (line : List ℕ) (request : Request) → Asks request_of line request
    → answer_line total line ≡ answer_text (shown_at total request)
unfolding answer_line
line_is total line request is = ap (λ r. answer_text (option_map_or (shown_at total) r [])) is.reads
