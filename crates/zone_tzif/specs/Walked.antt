-- How far back a footer says what a set shows, by the set's entries, up to the end of the cycle.
use Rattle.std.specs.Prelude.{◌≡◌, ℕ, suc, ◌<◌, ◌≤◌, List, filter, length, map, Option, Some, ℤ, pos, neg_ℤ, ◌≤ℤ◌, ◌<ℤ◌, int_le}
use Rattle.zone_spans.specs.Entries.{Entry}
use Rattle.tz_tzif.specs.FooterForce.{FooterZone, held_at}
use Rattle.tz_lookup.specs.{Sets.{shifts_of}, declared.set.FixedTimespanSet.{FixedTimespanSet}}
use Rattle.zone_tail.specs.Carried.{IsFrom}
use Rattle.zone_tzif.specs.{Agreement.{cycle_end, time_of_entry, year_zero}, Values.{change_by, kind_by}, declared.convert.Saves.TheVariants.{Any}}
use Rattle.zone_tzif_core.specs.{Totals.{last_kind}, Zones.{KindValue}}

-- the changes up to a second, as those of a file
abbrev pub come : ℤ → List Entry → List (ℤ × KindValue)
come second entries = filter (λ (change : ℤ × KindValue). int_le change.0 second) (map (change_by Any) entries)

-- what a set has in force at a second, as a file says it
abbrev pub kind_from : FixedTimespanSet → ℤ → KindValue
kind_from set second = last_kind (kind_by Any set.first) (come second set.others)

module _ (zone : FooterZone) (set : FixedTimespanSet) where
  -- up to the end of the cycle
  pub record Agrees (from : Option ℤ) : Type 0 where
    pub alike : (s : ℤ) → IsFrom from s → s <ℤ cycle_end → held_at zone s ≡ kind_from set s

  -- from entry i on
  pub record AgreesAt (i : ℕ) : Type 0 where
    pub first : year_zero ≤ℤ time_of_entry set i
    pub from : Agrees (Some (time_of_entry set i))

  -- the entries from n on agree, and the one before them doesn't
  pub record IsWalked (n : ℕ) : Type 0 where
    pub within : n ≤ length (shifts_of set)
    pub later : (i : ℕ) → n ≤ i → i < length (shifts_of set) → AgreesAt i
    pub stops : (i : ℕ) → suc i ≡ n → AgreesAt i → ⊥

-- a second at which what an entry puts in force has not ended, up to the end of the cycle
pub record Lasts (set : FixedTimespanSet) (i : ℕ) (s : ℤ) : Type 0 where
  pub next : suc i < length (shifts_of set) → s <ℤ time_of_entry set (suc i)
  pub cycle : s <ℤ cycle_end

-- at most 70,000,000,000 in size
pub record IsNear (second : ℤ) : Type 0 where
  pub least : neg_ℤ (pos 70000000000) ≤ℤ second
  pub greatest : second ≤ℤ pos 70000000000
