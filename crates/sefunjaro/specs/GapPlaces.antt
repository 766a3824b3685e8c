-- Where the change that skips a local time is searched for.
use Rattle.std.specs.Prelude.{◌≡◌, ℕ, ℤ, pos, ◌+ℤ◌, ◌-ℤ◌, ◌*ℤ◌}
use Rattle.civil_base.specs.Instants.{nanos_of, seconds_of}

-- the clocks of a zone of these totals never show the local time x
unfoldable pub IsNeverRead : (ℤ → ℤ) → ℤ → Type 0
IsNeverRead total x = (t : ℤ) → (t +ℤ pos 1000000000 *ℤ total t) ≡ x → ⊥

-- one total is in force throughout a second
unfoldable pub HoldsSeconds : (ℤ → ℤ) → Type 0
HoldsSeconds total = (t : ℤ) → total t ≡ total (nanos_of (seconds_of t))

-- the offset at a place, where the least of all is at place 1
abbrev pub nth_offset : ℕ → ℤ
nth_offset place = pos place -ℤ pos 93600
