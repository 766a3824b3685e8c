-- The numbers and the names of months.
use Rattle.std.specs.Prelude.{◌≡◌, ℕ, ◌+◌, ◌%◌, ◌≤◌, List, [], ◌∷◌, get_or, codes}
use denote.Enum.Declared.{tag_of as place_among}
use Rattle.civil_parts.specs.{contracts.month.Month.{the_type as months}, declared.month.Month.{Month}}

-- from 1 to 12, in the order of the variants
abbrev pub month_number : Month → ℕ
month_number month = place_among months month + 1

-- the second month follows the first; January follows December
abbrev pub IsMonthBefore : Month → Month → Type 0
IsMonthBefore month following = month_number following ≡ month_number month % 12 + 1

-- the names, in the same order
abbrev pub month_names : List (List ℕ)
month_names =
    codes "January" ∷ codes "February" ∷ codes "March" ∷ codes "April" ∷ codes "May" ∷ codes "June" ∷ codes "July"
    ∷ codes "August" ∷ codes "September" ∷ codes "October" ∷ codes "November" ∷ codes "December" ∷ []

abbrev pub month_name : Month → List ℕ
month_name month = get_or month_names (place_among months month) []

pub record IsMonthNumber (m : ℕ) : Type 0 where
  pub first : 1 ≤ m
  pub last : m ≤ 12
