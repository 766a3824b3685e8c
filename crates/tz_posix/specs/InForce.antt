-- When daylight saving time is in force by a rule. Instants are seconds from 1970-01-01 00:00 UTC.
use Rattle.std.specs.{Prelude.{Bool, ◌&&◌, ◌||◌, [], ◌∷◌, Option, Some, if◌then◌else◌, ℤ, pos, neg_ℤ, ◌+ℤ◌, ◌-ℤ◌, ◌*ℤ◌, int_le, int_lt}, Int.{int_div_euclid}, Option.{option_map_or}}
use Rattle.basics.specs.Dates.{year_of}
use Rattle.tz_posix.specs.{Days.{rule_day, day_refusal}, Ranges.{first_some}, Spells.{TimeRange, day_times}, declared.date.Date.{Date}, declared.error.Error.{Error}, declared.error.Error.TheVariants.{ComponentRange}, declared.time.Time.{Time}}

-- a day of each year, and the seconds from its midnight, which may be below 0
abbrev pub YearlyTime : Type 0
YearlyTime = Date × ℤ

-- a time that is not written is 02:00:00
abbrev pub moment_of : {T : Type 0} → TimeRange T → Date × Option T → YearlyTime
moment_of range moment = (moment.0, option_map_or range.seconds moment.1 (pos 7200))

abbrev pub yearly_time : Date × Option Time → YearlyTime
yearly_time = moment_of day_times

-- the year of the date of an instant, where clocks are so many seconds ahead of UTC
unfoldable pub year_at : ℤ → ℤ → ℤ
year_at offset t = year_of (int_div_euclid (t +ℤ offset) (pos 86400))

-- the instant at which those clocks show the time of a year
unfoldable pub instant_in : ℤ → ℤ → YearlyTime → ℤ
instant_in y offset time = pos 86400 *ℤ rule_day time.0 y +ℤ time.1 -ℤ offset

-- the start and the end of a year's daylight saving time: the start is read at the standard offset, the end at that of daylight
-- saving time, and either may lie past the year's edges
abbrev pub moments_in : ℤ → ℤ → YearlyTime → YearlyTime → ℤ → ℤ × ℤ
moments_in standard saving start end y = (instant_in y standard start, instant_in y saving end)

-- from the start up to, without, the end; where the end lies before the start, before the end and from the start on
abbrev pub is_within : ℤ → ℤ → ℤ → Bool
is_within start end t =
    (int_le start t && int_lt t end) || (int_lt end start && (int_lt t end || int_le start t))

-- between both in the year at the standard offset
unfoldable pub is_saving : ℤ → ℤ → YearlyTime → YearlyTime → ℤ → Bool
is_saving standard saving start end t =
    let moments = moments_in standard saving start end (year_at standard t) in
    is_within moments.0 moments.1 t

-- the seconds east of UTC
unfoldable pub posix_total : ℤ → ℤ → YearlyTime → YearlyTime → ℤ → ℤ
posix_total standard saving start end t = if is_saving standard saving start end t then saving else standard

-- a year that dates have
abbrev pub is_year : ℤ → Bool
is_year y = int_le (neg_ℤ (pos 9999)) y && int_le y (pos 9999)

-- the first refusal: of the year, of the start's day in it, of the end's
unfoldable pub rule_refusal : ℤ → Date → Date → ℤ → Option Error
rule_refusal standard start end t =
    let y = year_at standard t in
    if is_year y then first_some (day_refusal start y ∷ day_refusal end y ∷ []) else Some ComponentRange
