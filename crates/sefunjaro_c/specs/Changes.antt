-- The changes of a zone, and the ring of an alarm.
use Rattle.std.specs.Prelude.{◌≡◌, ◌⊎◌, ℕ, ℤ, List, Option, Some, None, length}
use Rattle.sefunjaro.specs.{Answered.{first_of}, Changes.{window}, Clocks.{clock_shown, IsClock}, Rooms.{filled}, Zones.{spans_in}, declared.zone.Reading.{Reading}, declared.changes.Change.{Change}}
use Rattle.sefunjaro.specs.declared.{clock.Clock.{Clock}, zone.OpenZone.{OpenZone}}
use Rattle.sefunjaro_c.specs.Held.{Seen}
use Rattle.sefunjaro_c.specs.Statuses.{done, none_there, out_of_range}

-- what is found is told; there may be none
abbrev pub IsFound : {A : Type 0} → Option A → ℕ → A → A → Type 0
IsFound (Some found) status old new = (status ≡ done) × (new ≡ found)
IsFound None status old new = (status ≡ none_there) × (new ≡ old)

-- the changes of a window of time, as far as there is room, and how many there are
abbrev pub AreChanges : OpenZone → ℤ → ℤ → ℕ → List Change → List Change → ℕ → Type 0
AreChanges zone from to status old new count =
    (status ≡ done) × ((new ≡ filled (window (spans_in zone) from to) old) × (count ≡ length (window (spans_in zone) from to)))

-- parts that are a local time have that ring, or none; others are out of range
abbrev pub IsRing : OpenZone → Clock → ℕ → Reading → Reading → Type 0
IsRing zone clock status old new =
    (IsClock clock × Seen zone (λ total _. IsFound (first_of total (clock_shown clock)) status old new))
    ⊎ ((IsClock clock → ⊥) × ((status ≡ out_of_range) × (new ≡ old)))
