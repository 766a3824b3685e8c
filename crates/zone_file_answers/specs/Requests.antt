-- What a request line asks.
use Rattle.std.specs.{Prelude.{ℕ, List, [], Option}, List.{before_first, after_first}}
use Rattle.zone_answers.specs.Requests.{Request, is_space, request_with}

-- `at N` or `local TEXT`, with one space after the word: of a zone without a name
unfoldable pub request_of : List ℕ → Option Request
request_of line = request_with (before_first is_space line) [] (after_first is_space line)
