-- The local time that a text names.
use Rattle.std.specs.Prelude.{ℕ, ◌^◌, Bool, ◌&&◌, List, Option, Some, None, bytes_eq, if◌then◌else◌, ℤ, pos, ◌+ℤ◌}
use Rattle.basics.specs.Dates.{last_with}
use Rattle.civil_base.specs.{Layout.{local_text}, Ranges.{first_time, is_in_years}}

-- the text is that of this local time
abbrev pub is_text_of : List ℕ → ℤ → Bool
is_text_of text x = is_in_years x && bytes_eq (local_text x) text

abbrev pub nth_time : ℕ → ℤ
nth_time n = pos n +ℤ first_time

-- the last of the local times that has the text, of which there is at most one; 2 ^ 70 nanoseconds are more than those years
unfoldable pub time_with : List ℕ → ℤ
time_with text = nth_time (last_with (λ n. is_text_of text (nth_time n)) (2 ^ 70))

-- the local time whose text this is
unfoldable pub local_time_in : List ℕ → Option ℤ
local_time_in text = if is_text_of text (time_with text) then Some (time_with text) else None
