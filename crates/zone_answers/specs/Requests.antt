-- What a request line asks.
use Rattle.std.specs.{Prelude.{◌≡◌, ℕ, ℤ, Bool, ◌==◌, ◌&&◌, List, length, drop, Option, Some, None, option_map, pos, neg_ℤ, codes, bytes_eq, nat_lt, nat_le, if◌then◌else◌, slice_index}, Char.{is_digit}, List.{before_first, after_first, list_all}}
use Rattle.std.specs.Str.Parse.{digits_value}
use Rattle.civil_base.specs.{Layout.{local_text}, LocalTimes.{local_time_in}}

-- `at`: the local time of an instant in a zone; the zone's name, and nanoseconds from 1970-01-01 00:00:00 UTC.
-- `local`: the instants that a zone reads as a local time; the name, and nanoseconds from the local 1970-01-01 00:00:00
pub data Request : Type 0 where
  at : List ℕ → ℤ → Request
  local : List ℕ → ℤ → Request

abbrev pub name_of : Request → List ℕ
name_of (at name instant) = name
name_of (local name time) = name

-- the text is that of a request's local time
abbrev pub IsSpelled : Request → List ℕ → Type 0
IsSpelled (at name instant) text = Unit {0}
IsSpelled (local name time) text = local_text time ≡ text

abbrev pub is_space : ℕ → Bool
is_space byte = byte == 32

-- 1 to 30 ASCII digits
abbrev pub is_number : List ℕ → Bool
is_number digits = nat_lt 0 (length digits) && nat_le (length digits) 30 && list_all (λ c. is_digit c 10) digits

abbrev pub is_negative : List ℕ → Bool
is_negative text = slice_index text 0 == 45

abbrev pub without_minus : List ℕ → List ℕ
without_minus text = if is_negative text then drop 1 text else text

-- the number of nanoseconds that an optional `-` and such digits write
unfoldable pub nanoseconds_in : List ℕ → Option ℤ
nanoseconds_in text =
    let size = pos (digits_value 10 (without_minus text)) in
    if is_number (without_minus text) then Some (if is_negative text then neg_ℤ size else size) else None

-- what the word `at` or `local` asks of a zone by its value
unfoldable pub request_with : List ℕ → List ℕ → List ℕ → Option Request
request_with word name value =
    if bytes_eq word (codes "at") then option_map (at name) (nanoseconds_in value)
    else (if bytes_eq word (codes "local") then option_map (local name) (local_time_in value) else None)

-- `at NAME N` or `local NAME TEXT`, with one space at each gap, the name being one or more characters other than space
unfoldable pub request_of : List ℕ → Option Request
request_of line =
    let rest = after_first is_space line in
    let name = before_first is_space rest in
    if nat_lt 0 (length name) then request_with (before_first is_space line) name (after_first is_space rest) else None
