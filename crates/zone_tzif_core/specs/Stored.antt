-- Kinds that are kept by their places among the names of a file.
use Rattle.std.specs.{Prelude.{◌≡◌, ℕ, ◌+◌, ◌≤◌, ◌<◌, ℤ, true, List, length, take, drop, Some, slice_get}, Str.{is_utf8}}
use Rattle.zone_tzif_core.specs.{Zones.{KindValue}, declared.stored.Stored.{Stored}}

-- the name is so many bytes from a place on
abbrev pub stored_name : List ℕ → Stored → List ℕ
stored_name names kind = take kind.length (drop kind.from names)

abbrev pub stored_kind : List ℕ → Stored → KindValue
stored_kind names kind = record { utoff = kind.utoff; is_dst = kind.is_dst; name = stored_name names kind }

-- the name lies among the names, and is UTF-8
abbrev pub IsStored : List ℕ → Stored → Type 0
IsStored names kind = (kind.from + kind.length ≤ length names) × (is_utf8 (stored_name names kind) ≡ true)

abbrev pub AreStored : List ℕ → List Stored → Type 0
AreStored names kinds = (k : ℕ) (kind : Stored) → slice_get kinds k ≡ Some kind → IsStored names kind

-- each change has the number of one of so many kinds
abbrev pub AreNumbered : ℕ → List (ℤ × ℕ) → Type 0
AreNumbered count changes = (k : ℕ) (change : ℤ × ℕ) → slice_get changes k ≡ Some change → change.1 < count
