-- What may stand for the tail of a zone: one total, or a rule of each year.
use Rattle.std.specs.Prelude.{ℕ, zero, suc, ◌<◌, length, ℤ, pos, ◌≤ℤ◌}
use Rattle.civil_base.specs.Instants.{seconds_of}
use Rattle.zone_spans.specs.Schedules.{Schedule}
use Rattle.tz_lookup.specs.{Spans.{shift_at}, YearSeconds.{rules_begin}}
use Rattle.zone_tail.specs.{Rules.{IsSound, rule_total}, declared.candidate.Candidate.{Candidate}, declared.candidate.Candidate.TheVariants.{Fixed, Ruled}}

-- the seconds east of UTC at a second
abbrev pub total_by : Candidate → ℤ → ℤ
total_by (Fixed total) second = total
total_by (Ruled rule) second = rule_total rule second

-- and at an instant in nanoseconds
unfoldable pub candidate_total : Candidate → ℤ → ℤ
candidate_total candidate t = total_by candidate (seconds_of t)

abbrev pub IsFixed : Candidate → Type 0
IsFixed (Fixed total) = Unit {0}
IsFixed (Ruled rule) = ⊥

-- the beginning of 1800 in UTC
abbrev pub year_1800 : ℤ
year_1800 = rules_begin

-- a rule says nothing of the time before 1800
abbrev pub ReachesTo : Candidate → ℤ → Type 0
ReachesTo (Fixed total) second = Unit {0}
ReachesTo (Ruled rule) second = year_1800 ≤ℤ second

-- span k is one that a candidate may stand for the tail from: any span, or, of a rule, one that an entry begins from 1800 on
abbrev pub IsAllowed : Candidate → Schedule → ℕ → Type 0
IsAllowed candidate zone zero = IsFixed candidate
IsAllowed candidate zone (suc i) = (i < length zone.shifts) × ReachesTo candidate (shift_at zone.shifts i).0

abbrev pub IsSoundCandidate : Candidate → Type 0
IsSoundCandidate (Fixed total) = Unit {0}
IsSoundCandidate (Ruled rule) = IsSound rule

-- a rule is followed to 2160 at most
abbrev pub IsLast : Candidate → ℤ → Type 0
IsLast (Fixed total) second = Unit {0}
IsLast (Ruled rule) second = second ≤ℤ pos 6000000000
