-- What is asked of a handle that holds a source or a zone.
use Rattle.std.specs.{Prelude.{◌≡◌, ℕ, ℤ, Bool, List, Option, Some, None}, Arc.{arc_value}}
use Rattle.sefunjaro.specs.{Zones.{given_in, origin_in, total_in}, declared.source.OpenSource.{OpenSource}, declared.zone.OpenZone.{OpenZone}}
use Rattle.sefunjaro.specs.declared.{zone.Origin.{Origin}, zone.Origin.TheVariants.{Source as OfName, File as OfBytes}}
use Rattle.sefunjaro_c.specs.{Statuses.{not_kept, not_open}, declared.opened.Opened.{Opened}, declared.opened.Opened.TheVariants.{Source, Zone}}

-- a zone is answered for; anything else has the status of what isn't open, and what is kept is kept
abbrev pub OfZone : Opened → ℕ → Type 0 → (OpenZone → Type 0) → Type 0
OfZone (Zone shared) status kept P = P (arc_value shared)
OfZone (Source source) status kept P = (status ≡ not_open) × kept

abbrev pub OnZone : Option Opened → ℕ → Type 0 → (OpenZone → Type 0) → Type 0
OnZone None status kept P = (status ≡ not_open) × kept
OnZone (Some opened) status kept P = OfZone opened status kept P

-- of a zone, what only a zone of a source keeps; any other has the status of what isn't kept, and what is there stays
abbrev pub OfOrigin : Origin → ℕ → Type 0 → Type 0 → Type 0
OfOrigin OfName status kept P = P
OfOrigin OfBytes status kept P = (status ≡ not_kept) × kept

abbrev pub OfKept : OpenZone → ℕ → Type 0 → (OpenZone → Type 0) → Type 0
OfKept zone status kept P = OfOrigin (origin_in zone) status kept (P zone)

-- this holds of the seconds east of UTC that are in force in a zone at each instant, in nanoseconds from 1970-01-01 00:00:00 UTC, and of
-- the abbreviations that are given then
abbrev pub Seen : OpenZone → ((ℤ → ℤ) → (ℤ → List ℕ → Bool → Type 0) → Type 0) → Type 0
Seen zone P = P (total_in zone) (given_in zone)

-- the same of a source
abbrev pub OfSource : Opened → ℕ → Type 0 → (OpenSource → Type 0) → Type 0
OfSource (Source source) status kept P = P source
OfSource (Zone shared) status kept P = (status ≡ not_open) × kept

abbrev pub OnSource : Option Opened → ℕ → Type 0 → (OpenSource → Type 0) → Type 0
OnSource None status kept P = (status ≡ not_open) × kept
OnSource (Some opened) status kept P = OfSource opened status kept P

-- what is held is a zone with that property
abbrev pub IsZone : (OpenZone → Type 0) → Opened → Type 0
IsZone P (Zone shared) = P (arc_value shared)
IsZone P (Source source) = ⊥

-- what is held is a source with that property
abbrev pub IsSource : (OpenSource → Type 0) → Opened → Type 0
IsSource P (Source source) = P source
IsSource P (Zone shared) = ⊥
