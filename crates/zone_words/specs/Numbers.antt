-- What the numbers of a text amount to.
use Rattle.std.specs.Prelude.{ℕ, ◌+◌, ◌-◌, ◌*◌, ◌^◌, Bool, ◌||◌, ◌==◌, List, [], ◌∷◌, length, ℤ, pos, ◌+ℤ◌, ◌*ℤ◌}
use Rattle.basics.specs.Days.{day}
use Rattle.civil_base.specs.{Clock.{nanos_per_day, time_at}, Offsets.{signed_by}}
use Rattle.zone_words.specs.declared.form.{WrittenDate.{WrittenDate}, WrittenTime.{WrittenTime}, WrittenOffset.{WrittenOffset}}

-- `T`, `t` or a space
abbrev pub is_separator : ℕ → Bool
is_separator c = c == 84 || c == 116 || c == 32

-- `Z` or `z`
abbrev pub is_utc : ℕ → Bool
is_utc c = c == 90 || c == 122

-- the number that digits write behind those of n
abbrev pub number_after : ℕ → List ℕ → ℕ
number_after n [] = n
number_after n (c ∷ digits) = number_after (10 * n + (c - 48)) digits

-- digits as those of a fraction, in billionths
abbrev pub fraction_of : List ℕ → ℕ
fraction_of digits = number_after 0 digits * 10 ^ (9 - length digits)

-- the nanoseconds from 1970-01-01 00:00 to a date and time
unfoldable pub moment : WrittenDate → WrittenTime → ℤ
moment d t = day (pos d.year) d.month d.day *ℤ pos nanos_per_day +ℤ pos (time_at t.hour t.minute t.second t.nanosecond)

-- the seconds of an offset
unfoldable pub seconds_east : WrittenOffset → ℤ
seconds_east o = signed_by o.west ((o.hours * 60 + o.minutes) * 60)

-- the nanoseconds of a count of seconds and a fraction, on either side of 1970
unfoldable pub counted : Bool → ℕ → ℕ → ℤ
counted before seconds fraction = signed_by before (seconds * 1000000000 + fraction)
