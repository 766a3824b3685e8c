-- What a zone answers.
use Rattle.std.specs.Prelude.{◌≡◌, ◌⊎◌, ℕ, ℤ, Bool, true, false, List, length}
use Rattle.civil_base.specs.{DateTimes.{instant, local_of, offset_of}, declared.offset_date_time.OffsetDateTime.{OffsetDateTime}, Instants.{local_at}, Layout.{day_part, time_part, zoned_text}, Ranges.{is_in_years}}
use Rattle.sefunjaro.specs.{Clocks.{clock_at, clock_shown, IsClock}, Rooms.{filled}, declared.clock.Clock.{Clock}}
use Rattle.sefunjaro_c.specs.Statuses.{done, out_of_range}

-- where the question may be asked it is answered; else it is out of range, and what is kept is kept
abbrev pub Where : Bool → ℕ → Type 0 → Type 0 → Type 0
Where true status kept P = (status ≡ done) × P
Where false status kept P = (status ≡ out_of_range) × kept

-- the same, where what is said of an answer says its status
abbrev pub Within : Bool → ℕ → Type 0 → Type 0 → Type 0
Within true status kept P = P
Within false status kept P = (status ≡ out_of_range) × kept

-- the local date of an instant lies in the years -9999 to 9999
unfoldable pub is_shown : (ℤ → ℤ) → ℤ → Bool
is_shown total t = is_in_years (local_at t (total t))

-- a date-time is that of an instant at the offset in force
pub record IsShownAs (total : ℤ → ℤ) (t : ℤ) (shown : OffsetDateTime) : Type 0 where
  pub instant : instant shown ≡ t
  pub offset : offset_of shown ≡ total t
  pub local : local_of shown ≡ local_at t (total t)

-- the zoned text of an instant stands in the room, as far as it fits, and its length is told
pub record IsTextIn (total : ℤ → ℤ) (t : ℤ) (old new : List ℕ) (whole : ℕ) : Type 0 where
  pub room : new ≡ filled (zoned_text t (total t)) old
  pub length : whole ≡ length (zoned_text t (total t))

-- what a zone's clocks show at an instant, and the offset in force
pub record IsClockIn (total : ℤ → ℤ) (t : ℤ) (shown : Clock) (told : ℤ) : Type 0 where
  pub clock : shown ≡ (let x = local_at t (total t) in clock_at (day_part x) (time_part x))
  pub offset : told ≡ total t

-- parts that are a local time are answered for; others are out of range
abbrev pub OfClock : Clock → ℕ → Type 0 → (ℤ → Type 0) → Type 0
OfClock clock status kept P = ((status ≡ done) × (IsClock clock × P (clock_shown clock))) ⊎ ((status ≡ out_of_range) × ((IsClock clock → ⊥) × kept))
