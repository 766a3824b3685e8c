-- What is answered to lines.
use Rattle.std.specs.{Prelude.{ℕ, Bool, true, List, length, nat_lt, if◌then◌else◌}, List.{flat_map, list_any}, Str.Lines.{strip_carriage_return}}

-- the response to each request, whether that is a fault, and the response to a request that is too long
pub record Replies : Type 0 where
  pub response : List ℕ → List ℕ
  pub is_fault : List ℕ → Bool
  pub to_long : List ℕ

-- the request of a line is the line without the one CR at its end; one of more bytes than the limit is a fault
abbrev pub answer : ℕ → Replies → List ℕ → List ℕ
answer limit replies line =
    let request = strip_carriage_return line in
    if nat_lt limit (length request) then replies.to_long else replies.response request

abbrev pub fails : ℕ → Replies → List ℕ → Bool
fails limit replies line =
    let request = strip_carriage_return line in
    if nat_lt limit (length request) then true else replies.is_fault request

-- the longest request that is read
abbrev pub longest : ℕ
longest = 4096

-- to lines, one after another
abbrev pub answers : Replies → List (List ℕ) → List ℕ
answers replies lines = flat_map (answer longest replies) lines

abbrev pub any_fails : Replies → List (List ℕ) → Bool
any_fails replies lines = list_any (fails longest replies) lines
