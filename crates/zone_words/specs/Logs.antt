-- Lines of logs, with the local time in place of a time.
use Rattle.std.specs.{Prelude.{ℕ, ◌+◌, ◌-◌, ◌==◌, ◌||◌, Bool, not, List, ◌++◌, length, take, drop, zero, suc, nat_le, if◌then◌else◌, Option, ℤ}, List.{prefix_len}, Option.{option_map_or}}
use Rattle.zone_words.specs.Stamps.{stamp_in}

-- a space or a tab
abbrev pub is_blank : ℕ → Bool
is_blank c = c == 32 || c == 9

abbrev pub after_blanks : List ℕ → List ℕ
after_blanks text = drop (prefix_len is_blank text) text

abbrev pub after_word : List ℕ → List ℕ
after_word text = drop (prefix_len (λ c. not (is_blank c)) text) text

-- the same k fields further on
unfoldable pub fields_on : ℕ → List ℕ → List ℕ
fields_on zero text = text
fields_on (suc k) text = after_blanks (after_word (fields_on k text))

-- the line from a field on, fields being the longest pieces without blanks, counted from 1; 0 is the whole line
abbrev pub from_field : ℕ → List ℕ → List ℕ
from_field zero line = line
from_field (suc k) line = fields_on k (after_blanks line)

-- where the field begins
abbrev pub field_place : ℕ → List ℕ → ℕ
field_place field line = length line - length (from_field field line)

-- a text in place of some bytes, or the line as it is where there is no text
abbrev pub replaced : List ℕ → ℕ → ℕ → Option (List ℕ) → List ℕ
replaced line at size text = option_map_or (λ t. (take at line ++ t) ++ drop (at + size) line) text line

-- the front of a line with what is shown for the time at a place, if one stands there that ends within so many bytes
abbrev pub shown_at : ℕ → (ℤ → Option (List ℕ)) → ℕ → List ℕ → List ℕ
shown_at limit shown at line =
    option_map_or (λ (stamp : ℤ × ℕ). if nat_le (at + stamp.1) limit then replaced line at stamp.1 (shown stamp.0) else line) (stamp_in (drop at line)) line

-- the bytes of a line among which its time has to end
abbrev pub last_end : ℕ
last_end = 4096

-- with what is shown for the time in a field
abbrev pub log_front : ℕ → (ℤ → Option (List ℕ)) → List ℕ → List ℕ
log_front field shown line = shown_at last_end shown (field_place field line) line
