-- The numbers and the names of weekdays.
use Rattle.std.specs.Prelude.{◌≡◌, ℕ, ◌+◌, ◌%◌, List, [], ◌∷◌, get_or, codes}
use denote.Enum.Declared.{tag_of as place_among}
use Rattle.civil_parts.specs.{contracts.weekday.Weekday.{the_type as weekdays}, declared.weekday.Weekday.{Weekday}}

-- the days from Sunday on, as the calendar numbers weekdays; the first of the variants is Monday
abbrev pub weekday_number : Weekday → ℕ
weekday_number day = (place_among weekdays day + 1) % 7

-- the days from Monday on
abbrev pub days_from_monday : Weekday → ℕ
days_from_monday day = (weekday_number day + 6) % 7

-- n days after the first weekday it is the second
abbrev pub IsDaysBefore : ℕ → Weekday → Weekday → Type 0
IsDaysBefore n day later = (weekday_number day + n) % 7 ≡ weekday_number later

-- the names, in the order of the variants
abbrev pub weekday_names : List (List ℕ)
weekday_names =
    codes "Monday" ∷ codes "Tuesday" ∷ codes "Wednesday" ∷ codes "Thursday" ∷ codes "Friday" ∷ codes "Saturday" ∷ codes "Sunday" ∷ []

abbrev pub weekday_name : Weekday → List ℕ
weekday_name day = get_or weekday_names (place_among weekdays day) []
