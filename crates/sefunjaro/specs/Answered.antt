-- What zones of every kind answer, by the total in force at each instant.
use Rattle.std.specs.{Prelude.{◌≡◌, ℕ, ℤ, Bool, true, All, AllPairs, List, length, map, Option, option_map, IfSome, is_some}, List.{slice_get}}
use Rattle.civil_base.specs.{Instants.{local_at}, Ranges.{is_in_years}, declared.offset_date_time.OffsetDateTime.{OffsetDateTime}}
use Rattle.tz_lookup.specs.InForce.{all_in_force, in_force, shown_of}
use Rattle.zone_alarm.specs.{Rings.{ends_in_years, rings}, RingsOnce.{AreApart, RingsOnce}, Shown.{ring_shown}, declared.ring.Ring.{Ring}}
use Rattle.sefunjaro.specs.{Asked.{reading_of, IsNamed}, Gaps.{IsSkippedBy}, Rooms.{filled}, declared.zone.InForce.{InForce}, declared.zone.Reading.{Reading}, declared.gap.Gap.{Gap}}

-- what is in force at an instant, where each instant has a total, and gives abbreviations
pub record IsInForce (total : ℤ → ℤ) (gives : ℤ → List ℕ → Bool → Type 0) (t : ℤ) (found : InForce) (old new : List ℕ) : Type 0 where
  pub offset : found.offset ≡ total t
  pub named : IsNamed (gives t) found old new

-- an instant at the offset in force, where its local date lies in the years -9999 to 9999
pub record IsShown (total : ℤ → ℤ) (t : ℤ) (found : Option OffsetDateTime) : Type 0 where
  pub shown : IfSome found (λ value. shown_of value ≡ in_force total t)
  pub years : is_some found ≡ is_in_years (local_at t (total t))

-- all instants of a local time, as far as there is room, how many there are, and the change that skips it where there is none
pub record AreReadings (total : ℤ → ℤ) (x : ℤ) (old new : List Reading) (count : ℕ) (gap : Gap) : Type 0 where
  pub room : new ≡ filled (map reading_of (all_in_force total x)) old
  pub all : count ≡ length (all_in_force total x)
  pub skipped : count ≡ 0 → IsSkippedBy total x gap

-- of the instants of a local time the first, if there is one
abbrev pub first_of : (ℤ → ℤ) → ℤ → Option Reading
first_of total x = option_map reading_of (slice_get (all_in_force total x) 0)

-- the rings of an alarm that is set to a time of day, one for each of so many days from the first on: at most one a day, at the first
-- instant, none in a gap, and never two at one instant
pub record AreRings (total : ℤ → ℤ) (at : ℕ) (first : ℤ) (days : ℕ) (found : List Ring) : Type 0 where
  pub in_years : ends_in_years first days ≡ true
  pub each : map ring_shown found ≡ rings total at first days
  pub once : All (RingsOnce total at) (map ring_shown found)
  pub apart : AllPairs AreApart (map ring_shown found)
