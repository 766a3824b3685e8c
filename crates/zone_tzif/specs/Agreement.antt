-- Where a footer says what a set shows that goes on for ever: the offset, the abbreviation, and whether it is daylight saving time.
use Rattle.std.specs.Prelude.{◌≡◌, ℕ, ◌<◌, length, Option, Some, None, true, ℤ, pos, neg_ℤ, ◌+ℤ◌, ◌*ℤ◌, ◌≤ℤ◌, ◌<ℤ◌}
use Rattle.basics.specs.Days.{day}
use Rattle.civil_base.specs.{Instants.{seconds_of}, Ranges.{IsOffset}}
use Rattle.tz_ever.specs.Ever.{ever_span}
use Rattle.tz_tzif.specs.FooterForce.{FooterZone, held_at, is_fixed, standard_total}
use Rattle.tz_lookup.specs.{Sets.{shifts_of}, Spans.{shift_at}, declared.set.FixedTimespanSet.{FixedTimespanSet}}
use Rattle.zone_tail.specs.Carried.{IsFrom}
use Rattle.zone_tzif.specs.{Values.{kind_by}, declared.convert.Saves.TheVariants.{Any}}
use Rattle.zone_tzif_core.specs.Zones.{KindValue}

-- what a set shows for ever at an instant, as a file says it: any saving but 0 is daylight saving time
abbrev pub ever_kind : FixedTimespanSet → ℤ → KindValue
ever_kind set t = kind_by Any (ever_span set t)

-- an instant from a second on, or at any time where there is none, up to the end of the year 9999 by the footer's standard time
pub record IsCovered (zone : FooterZone) (from : Option ℤ) (t : ℤ) : Type 0 where
  pub begun : IsFrom from (seconds_of t)
  pub not_over : (seconds_of t +ℤ standard_total zone) <ℤ (pos 86400 *ℤ (day (pos 9999) 12 31 +ℤ pos 1))

-- at each of these instants the footer puts in force what the set shows for ever
abbrev pub AgreesForEver : FooterZone → FixedTimespanSet → Option ℤ → Type 0
AgreesForEver zone set from = (t : ℤ) → IsCovered zone from t → held_at zone (seconds_of t) ≡ ever_kind set t

-- 2102-01-01 00:00:00 UTC, from which on each year comes again
abbrev pub cycle_begin : ℤ
cycle_begin = pos 4165516800

-- 2502-01-01 00:00:00 UTC
abbrev pub cycle_end : ℤ
cycle_end = pos 16788297600

abbrev pub time_of_entry : FixedTimespanSet → ℕ → ℤ
time_of_entry set i = (shift_at (shifts_of set) i).0

-- 0000-01-01 00:00:00 UTC: lines of zones end in later years
abbrev pub year_zero : ℤ
year_zero = neg_ℤ (pos 62167219200)

-- a footer may begin at an entry from then to the end of 2101
pub record MayBegin (set : FixedTimespanSet) (i : ℕ) : Type 0 where
  pub within : i < length (shifts_of set)
  pub first : year_zero ≤ℤ time_of_entry set i
  pub last : time_of_entry set i ≤ℤ cycle_begin

-- from this entry on; and no footer at all, whose offset is in range, does so from an entry before it
pub record AgreesFirstFrom (zone : FooterZone) (set : FixedTimespanSet) (second : ℤ) : Type 0 where
  pub entry : ℕ
  pub may : MayBegin set entry
  pub at : second ≡ time_of_entry set entry
  pub agrees : AgreesForEver zone set (Some second)
  pub none_before : (other : FooterZone) (i : ℕ) → IsOffset (standard_total other) → i < entry → MayBegin set i
      → AgreesForEver other set (Some (time_of_entry set i)) → ⊥

-- from no entry on
abbrev pub AgreesNowhere : FooterZone → FixedTimespanSet → Type 0
AgreesNowhere zone set = (i : ℕ) → MayBegin set i → AgreesForEver zone set (Some (time_of_entry set i)) → ⊥

-- standard time alone, no entry before the year 0, and so from the beginning of time on
pub record AgreesAlways (zone : FooterZone) (set : FixedTimespanSet) : Type 0 where
  pub fixed : is_fixed zone ≡ true
  pub early : (i : ℕ) → i < length (shifts_of set) → year_zero ≤ℤ time_of_entry set i
  pub agrees : AgreesForEver zone set None
