-- Kinds and changes that are tested while they are collected.
use Rattle.std.specs.Prelude.{◌≡◌, ℕ, ◌≤◌, ◌<◌, List, length, Result, Ok, Err}
use Rattle.zone_tzif_core.specs.{Zones.{KindValue}, declared.values.WriteFault.{WriteFault}, declared.values.WriteFault.TheVariants.{Types, NoMemory}}

-- refused only where there are more than 256, or for want of memory
abbrev pub IsTooMany : WriteFault → ℕ → Type 0
IsTooMany Types count = 256 < count
IsTooMany NoMemory count = Unit {0}
IsTooMany _ count = ⊥

-- at most 256, or refused
abbrev pub AreFew : {V : Type 0} → Result V WriteFault → ℕ → Type 0
AreFew (Ok _) count = count ≤ 256
AreFew (Err fault) count = IsTooMany fault count

-- all kinds, at most 256, or refused
abbrev pub Collects : {V : Type 0} → (V → List KindValue) → Result V WriteFault → List KindValue → Type 0
Collects shown (Ok kinds) all = (shown kinds ≡ all) × (length (shown kinds) ≤ 256)
Collects shown (Err fault) all = IsTooMany fault (length all)
