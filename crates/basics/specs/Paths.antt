-- Paths of files, whose parts stand between slashes.
use Rattle.std.specs.{Prelude.{ℕ, ◌==◌, ◌||◌, not, Bool, List, [], bytes_eq, codes}, List.{list_all, slice_split}}

abbrev pub is_slash : ℕ → Bool
is_slash byte = byte == 47

-- empty, `.` or `..`, which names no file of its own
abbrev pub is_no_part : List ℕ → Bool
is_no_part part = bytes_eq part [] || bytes_eq part (codes ".") || bytes_eq part (codes "..")

-- none of its parts is such
abbrev pub has_parts : List ℕ → Bool
has_parts path = list_all (λ part. not (is_no_part part)) (slice_split is_slash path)
