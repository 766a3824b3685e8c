-- The changes of each year that come at a local second of one year.
use Rattle.std.specs.{Prelude.{ℕ, ◌+◌, ◌/◌, List, [], ◌∷◌, ◌++◌, map, nat_le, nat_lt, Option, Some, None, if◌then◌else◌, ℤ, pos, unsigned_abs}, Int.{int_div_euclid, int_rem_euclid}}
use Rattle.basics.specs.{Dates.{day_of, month_of, year_of}, Days.{days_in_month}, Weekdays.{weekday_of}}
use Rattle.zone_tail.specs.declared.{changes.Changes.{Changes}, rule.Change.{Change}}

-- The weeks n by which a rule may name a day, with its weekday, in a month of so many days. The fifth is the last, so it may be 5
-- where the day a week later is past the month's end; else it is counted.
abbrev pub weeks : ℕ → ℕ → List ℕ
weeks length day =
    (if nat_lt length (day + 7) then 5 ∷ [] else []) ++ (if nat_le ((day + 6) / 7) 4 then (day + 6) / 7 ∷ [] else [])

-- the change of a day number and a second of the day, with that week
abbrev pub change_with : ℤ → ℕ → ℕ → Change
change_with day second week = record { month = month_of day; week = week; weekday = weekday_of day; second = second }

abbrev pub changes_of : ℤ → ℕ → List Change
changes_of day second = map (change_with day second) (weeks (days_in_month (year_of day) (month_of day)) (day_of day))

-- the changes that come at a local second
unfoldable pub changes_at : ℤ → List Change
changes_at local = changes_of (int_div_euclid local (pos 86400)) (unsigned_abs (int_rem_euclid local (pos 86400)))

-- one or two
abbrev pub with_other : {A : Type 0} → A → Option A → List A
with_other first None = first ∷ []
with_other first (Some second) = first ∷ second ∷ []

abbrev pub changes_shown : Changes → List Change
changes_shown changes = with_other changes.first changes.other
