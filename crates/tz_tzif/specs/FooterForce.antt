-- What a footer puts in force. Seconds are from 1970-01-01 00:00 UTC.
use Rattle.std.specs.Prelude.{Bool, true, false, ◌&&◌, ◌||◌, not, if◌then◌else◌, ℤ, pos, ◌+ℤ◌, ◌-ℤ◌, int_le, int_lt}
use Rattle.tz_posix.specs.InForce.{YearlyTime, moments_in, year_at}
use Rattle.zone_tzif_core.specs.Zones.{KindValue}

-- the start or the end is at or before the second
abbrev pub has_begun : ℤ × ℤ → ℤ → Bool
has_begun moments s = int_le moments.0 s || int_le moments.1 s

-- the start is, and the end isn't yet, or lies before the start
abbrev pub is_saved : ℤ × ℤ → ℤ → Bool
is_saved moments s = int_le moments.0 s && (int_lt s moments.1 || int_lt moments.1 moments.0)

-- a year decides where it has begun; before that it is daylight saving time where the year before, which is over, ends it before it
-- starts it
abbrev pub is_saved_since : ℤ × ℤ → ℤ × ℤ → ℤ → Bool
is_saved_since before earlier s = if has_begun before s then is_saved before s else int_lt earlier.1 earlier.0

-- of three years in a row, the latest first, the latest that has begun decides, or the year before them
unfoldable pub is_saved_by : ℤ × ℤ → ℤ × ℤ → ℤ × ℤ → ℤ × ℤ → ℤ → Bool
is_saved_by after here before earlier s =
    if has_begun after s then is_saved after s
    else (if has_begun here s then is_saved here s
    else is_saved_since before earlier s)

-- of the moments of each year, by those of the year after one, of it and of the two before it
abbrev pub saved_in : (ℤ → ℤ × ℤ) → ℤ → ℤ → Bool
saved_in moments y s = is_saved_by (moments (y +ℤ pos 1)) (moments y) (moments (y -ℤ pos 1)) (moments (y -ℤ pos 2)) s

-- by the rule in the year at the standard offset, in the year after and in the two years before
unfoldable pub is_footer_saving : ℤ → ℤ → YearlyTime → YearlyTime → ℤ → Bool
is_footer_saving standard saving start end s = saved_in (moments_in standard saving start end) (year_at standard s) s

-- one kind for good, or standard and daylight saving time with a start and an end in each year
pub data FooterZone : Type 0 where
  fixed : KindValue → FooterZone
  yearly : KindValue → KindValue → YearlyTime → YearlyTime → FooterZone

-- standard time alone
abbrev pub is_fixed : FooterZone → Bool
is_fixed (fixed kind) = true
is_fixed (yearly standard saving start end) = false

-- what holds at a second
unfoldable pub held_at : FooterZone → ℤ → KindValue
held_at (fixed kind) s = kind
held_at (yearly standard saving start end) s = if is_footer_saving standard.utoff saving.utoff start end s then saving else standard

-- whether the year of a second decides by itself: its rule has begun, and that of the year after hasn't
unfoldable pub is_of_one_year : FooterZone → ℤ → Bool
is_of_one_year (fixed kind) s = true
is_of_one_year (yearly standard saving start end) s =
    let y = year_at standard.utoff s in
    let moments = moments_in standard.utoff saving.utoff start end in
    has_begun (moments y) s && not (has_begun (moments (y +ℤ pos 1)) s)

-- the seconds east of UTC of standard time
abbrev pub standard_total : FooterZone → ℤ
standard_total (fixed kind) = kind.utoff
standard_total (yearly standard saving start end) = standard.utoff

-- and those of daylight saving time, or the same where there is none
abbrev pub saving_total : FooterZone → ℤ
saving_total (fixed kind) = kind.utoff
saving_total (yearly standard saving start end) = saving.utoff
