-- Names that are offsets.
use Rattle.std.specs.{Prelude.{ℕ, ◌+◌, ◌*◌, Bool, true, false, ◌&&◌, List, length, Option, Some, None, option_map, option_and_then, nat_eq, nat_le, ℤ, bytes_eq, codes, if◌then◌else◌}, Option.{option_map_or}}
use Rattle.civil_base.specs.Offsets.{signed_by}
use Rattle.basics.specs.{Marks.{after_mark, cut}, Numbers.{is_numeral, value_in}}

abbrev pub at_most : ℕ → Option ℕ → Option ℕ
at_most most (Some number) = if nat_le number most then Some number else None
at_most most None = None

-- two digits, of a number of at most that size
unfoldable pub two_in : ℕ → List ℕ → Option ℕ
two_in most text = if nat_eq (length text) 2 && is_numeral text then at_most most (value_in 8 text) else None

-- the seconds of `hh:mm`
unfoldable pub size_in : List ℕ → Option ℕ
size_in text = option_and_then (λ parts.
    option_and_then (λ hours. option_map (λ minutes. (hours * 60 + minutes) * 60) (two_in 59 parts.1)) (two_in 23 parts.0)) (cut 58 text)

abbrev pub sized_in : Bool → List ℕ → Option ℤ
sized_in west text = option_map (λ size. signed_by west size) (size_in text)

-- `UTC`, `+hh:mm` or `-hh:mm`, in seconds east of UTC
unfoldable pub offset_in : List ℕ → Option ℤ
offset_in name =
    if bytes_eq name (codes "UTC") then Some (signed_by false 0)
    else option_map_or (sized_in false) (after_mark 43 name) (option_map_or (sized_in true) (after_mark 45 name) None)
