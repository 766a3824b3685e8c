-- The cycle of 400 years that stands for each later one: the years 2102 to 2501.
use Rattle.std.specs.Prelude.{ℕ, ◌*◌, ◌/◌, ℤ, pos, ◌+ℤ◌, ◌-ℤ◌, ◌<ℤ◌, int_lt, if◌then◌else◌, unsigned_abs}

-- 2102-01-01 00:00:00, in nanoseconds from 1970-01-01 00:00:00: by UTC for an instant, by its own clock for a local time
abbrev pub seam : ℤ
seam = pos 4165516800000000000

-- 2502-01-01 00:00:00
abbrev pub next_seam : ℤ
next_seam = pos 16788297600000000000

-- the day numbers of these dates
abbrev pub seam_day : ℤ
seam_day = pos 48212

abbrev pub next_seam_day : ℤ
next_seam_day = pos 194309

-- the whole cycles, of 12,622,780,800 seconds, from the seam on
unfoldable pub cycles_past : ℤ → ℕ
cycles_past x = if int_lt x seam then 0 else unsigned_abs (x -ℤ seam) / 12622780800000000000

-- so many cycles before: an instant, or a local time, of 2501 or before
unfoldable pub brought_back : ℤ → ℤ
brought_back x = x -ℤ pos (cycles_past x * 12622780800000000000)

-- less than 26 hours from the seam, on either side
pub record IsAtSeam (t : ℤ) : Type 0 where
  pub after : (seam -ℤ pos 93600000000000) <ℤ t
  pub before : t <ℤ (seam +ℤ pos 93600000000000)
