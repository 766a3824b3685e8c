-- The times of a day and those with a sign are read as they are written.
use Rattle.tz_posix.specs.{AgainLaws.{offset_again, time_again}, FoundLaws.{offset_found, time_found}, Reading.{AreRead, clock_time_at, offset_at}, Spells.{day_times, signed_times}}

pub day_times_read : AreRead day_times clock_time_at
day_times_read = record { again = time_again; found = time_found }

pub signed_times_read : AreRead signed_times offset_at
signed_times_read = record { again = offset_again; found = offset_found }
