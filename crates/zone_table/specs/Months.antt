-- The months, by their names and numbers.
use Rattle.std.specs.Prelude.{ℕ, ◌-◌, List, [], ◌∷◌, Option, ok_or, Result, ◌==◌, codes, if◌then◌else◌}
use Rattle.zone_table.specs.{Faults.{Fault, refused}, declared.fault.FaultKind.TheVariants.{FailedMonthParse}, Names.{named, name_at, lower}, declared.month.Month.{Month}, declared.month.Month.TheVariants.{January, February, March, April, May, June, July, August, September, October, November, December}}

-- from 1 to 12
abbrev pub month_number : Month → ℕ
month_number January = 1
month_number February = 2
month_number March = 3
month_number April = 4
month_number May = 5
month_number June = 6
month_number July = 7
month_number August = 8
month_number September = 9
month_number October = 10
month_number November = 11
month_number December = 12

-- the month of that number, from 1 to 12
abbrev pub month_numbered : ℕ → Month
month_numbered n =
    if n == 1 then January else if n == 2 then February else if n == 3 then March
    else if n == 4 then April else if n == 5 then May else if n == 6 then June
    else if n == 7 then July else if n == 8 then August else if n == 9 then September
    else if n == 10 then October else if n == 11 then November else December

-- the months by their English names, in order
abbrev pub named_months : List (List ℕ × Month)
named_months =
    (codes "January", January) ∷ (codes "February", February) ∷ (codes "March", March) ∷ (codes "April", April)
    ∷ (codes "May", May) ∷ (codes "June", June) ∷ (codes "July", July) ∷ (codes "August", August)
    ∷ (codes "September", September) ∷ (codes "October", October) ∷ (codes "November", November) ∷ (codes "December", December) ∷ []

unfoldable pub month_name : Month → List ℕ
month_name month = name_at named_months (month_number month - 1)

-- the month of that English name
unfoldable pub month_named : List ℕ → Option Month
month_named text = named named_months text

-- the fault holds the text in ASCII lower case
abbrev pub month_field : List ℕ → Result Month Fault
month_field text = ok_or (month_named text) (refused FailedMonthParse (lower text))
