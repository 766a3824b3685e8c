-- What the words of the program ask of a zone.
use Rattle.std.specs.Prelude.{ℕ, List, [], ◌∷◌, Option, Some, None, option_map, ℤ, codes, if◌then◌else◌}
use Rattle.zone_run.specs.{Asked.{Asked}, Numbers.{number_in}}
use Rattle.zone_source.specs.LineLists.{ended}
use Rattle.zone_list.specs.{Ranges.{all_have_dates}, Rows.{rows}, Windows.{window}}

-- the rows of a window, each followed by a line feed; it is refused where an entry of the window has no dates
abbrev pub asks : ℤ → ℤ → Asked
asks from to = record {
  cause = λ set. if all_have_dates (window set from to) then None else Some (codes "range");
  due = λ set. ended (rows (window set from to));
}

abbrev pub both : Option ℤ → Option ℤ → Option (ℤ × ℤ)
both (Some from) (Some to) = Some (from, to)
both (Some from) None = None
both None to = None

-- numbers of at most 13 digits
abbrev pub most_seconds : ℕ
most_seconds = 9999999999999

-- FROM and TO
abbrev pub window_in : List (List ℕ) → Option (ℤ × ℤ)
window_in (from ∷ to ∷ []) = both (number_in most_seconds from) (number_in most_seconds to)
window_in (from ∷ to ∷ word ∷ words) = None
window_in (from ∷ []) = None
window_in [] = None

abbrev pub form : List (List ℕ) → Option Asked
form words = option_map (λ asked. asks asked.0 asked.1) (window_in words)
