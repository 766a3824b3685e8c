-- What stands at the same place of the next cycle of the Gregorian calendar: 400 years, or 146,097 days.
use Rattle.std.specs.Prelude.{map, ℕ, ℤ, pos, ◌+ℤ◌}
use Rattle.zone_spans.specs.{Entries.{Entry}, Firings.{Firing, Fired}}

abbrev pub cycle_years : ℕ
cycle_years = 400

abbrev pub cycle_length : ℕ
cycle_length = 12622780800

abbrev pub next_cycle : ℤ → ℤ
next_cycle y = y +ℤ pos 400

-- a day by its number
abbrev pub days_on : ℤ → ℤ
days_on k = k +ℤ pos 146097

-- a second
abbrev pub seconds_on : ℤ → ℤ
seconds_on t = t +ℤ pos 12622780800

-- an instant in nanoseconds
abbrev pub instant_on : ℤ → ℤ
instant_on t = t +ℤ pos 12622780800000000000

abbrev pub firing_on : Firing → Firing
firing_on f = record { time = seconds_on f.time; rule = f.rule }

abbrev pub fired_on : Fired → Fired
fired_on f = (map firing_on f.0, f.1)

-- a change with what it puts in force
abbrev pub entry_on : Entry → Entry
entry_on e = (seconds_on e.0, e.1)
