-- What is seen of a time zone by a text.
use Rattle.std.specs.Prelude.{◌≡◌, Option, Some, None, Result, Err, is_ok, MatchResult, ℤ}
use Rattle.civil_base.specs.{DateTimes.{instant, offset_of}, Instants.{local_at}, Ranges.{is_in_years}, declared.offset_date_time.OffsetDateTime.{OffsetDateTime}}
use Rattle.tz_lookup.specs.Zones.{set_of}
use Rattle.tz_posix.specs.{NamedShown.{named_of}, PosixZones.{PosixZone, zone, fixed, ruled, borrowed, Given, Gives, posix_refusal}, Yearly.{time_shown}, declared.error.Error.{Error}, declared.error.Error.TheVariants.{ComponentRange}}
use Rattle.tz_posix.specs.declared.posix.{Kind.{Kind}, Kind.TheVariants.{Zone, Fixed, Ruled, Borrowed}, PosixTz.{PosixTz}}

abbrev pub kind_shown : Kind → PosixZone
kind_shown (Zone tz) = zone (set_of tz)
kind_shown (Fixed standard) = fixed (named_of standard)
kind_shown (Ruled standard saving rule) = ruled (named_of standard) (named_of saving) (time_shown rule.start) (time_shown rule.end)
kind_shown (Borrowed standard saving tz) = borrowed (named_of standard) (named_of saving) (set_of tz)

abbrev pub posix_of : PosixTz → PosixZone
posix_of tz = kind_shown tz.kind

-- the instant at an offset, where its date there lies in the years
pub record IsAtOffset (t total : ℤ) (result : Result OffsetDateTime Error) : Type 0 where
  pub accepts : is_ok result ≡ is_in_years (local_at t total)
  pub told : MatchResult result (λ value. (instant value ≡ t) × (offset_of value ≡ total)) (λ error. error ≡ ComponentRange)

pub record IsAtGiven (tz : PosixZone) (t : ℤ) (result : Result OffsetDateTime Error) : Type 0 where
  pub given : Given
  pub gives : Gives tz t given
  pub converted : IsAtOffset t given.total result

-- the zone's refusal, or the instant at the offset that the zone gives it
abbrev pub IsConverted : PosixZone → ℤ → Result OffsetDateTime Error → Option Error → Type 0
IsConverted tz t result (Some error) = result ≡ Err error
IsConverted tz t result None = IsAtGiven tz t result

abbrev pub Converts : PosixZone → ℤ → Result OffsetDateTime Error → Type 0
Converts tz t result = IsConverted tz t result (posix_refusal tz t)
