-- Seconds at which the rule of the last year decides by itself: it has begun, and that of the year after hasn't.
use Rattle.std.specs.{Prelude.{◌≡◌, Bool, true, false, ◌||◌, ℤ, pos, ◌<ℤ◌, int_le}, List.{list_all}}
use Rattle.zone_spans.specs.Entries.{Entry}
use Rattle.tz_lookup.specs.declared.set.FixedTimespanSet.{FixedTimespanSet}
use Rattle.tz_posix.specs.{InForce.{YearlyTime, instant_in, year_at}, PosixZones.{PosixZone, ruled}}
use Rattle.zone_tail.specs.{Rules.{time_of}, Tails.{end_of_last_year, is_ending_early}, declared.candidate.Candidate.{Candidate}, declared.candidate.Candidate.TheVariants.{Fixed, Ruled}}

-- the start or the end in a year is at or before a second
abbrev pub has_begun_in : ℤ → ℤ → ℤ → YearlyTime → YearlyTime → ℤ → Bool
has_begun_in y standard saving start end s = int_le (instant_in y standard start) s || int_le (instant_in y saving end) s

pub record IsOfLastYear (standard saving : ℤ) (start end : YearlyTime) (s : ℤ) : Type 0 where
  pub year : year_at standard s ≡ pos 2099
  pub begun : has_begun_in (pos 2099) standard saving start end s ≡ true
  pub next : has_begun_in (pos 2100) standard saving start end s ≡ false

-- by the rule of a string, if it has one
abbrev pub IsSettled : PosixZone → ℤ → Type 0
IsSettled (ruled standard saving start end) s = IsOfLastYear standard.total saving.total start end s
IsSettled other s = Unit {0}

-- a second from a set's last change on, before the end of the last year
pub record IsPastChanges (set : FixedTimespanSet) (s : ℤ) : Type 0 where
  pub over : list_all (λ (entry : Entry). int_le entry.0 s) set.others ≡ true
  pub not_over : s <ℤ end_of_last_year set

-- the rule of a candidate decides so at each such second
abbrev pub Settles : FixedTimespanSet → Candidate → Type 0
Settles set (Fixed total) = Unit {0}
Settles set (Ruled rule) =
    is_ending_early set ≡ false → (s : ℤ) → IsPastChanges set s
    → IsOfLastYear rule.standard rule.saving (time_of rule.start) (time_of rule.end) s
