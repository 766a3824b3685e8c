-- Local times that clocks skip.
use Rattle.std.specs.Prelude.{◌≡◌, ℤ, pos, ◌-ℤ◌, ◌≤ℤ◌, ◌<ℤ◌}
use Rattle.civil_base.specs.Instants.{local_at, nanos_of}
use Rattle.sefunjaro.specs.declared.gap.Gap.{Gap}

-- At the second of a change clocks would have come to the local time x at most by the offset that was in force up to it, and by the
-- one that is in force from it on they are past it.
pub record IsSkippedBy (total : ℤ → ℤ) (x : ℤ) (gap : Gap) : Type 0 where
  pub before : gap.before ≡ total (nanos_of gap.second -ℤ pos 1)
  pub after : gap.after ≡ total (nanos_of gap.second)
  pub behind : local_at (nanos_of gap.second) gap.before ≤ℤ x
  pub ahead : x <ℤ local_at (nanos_of gap.second) gap.after
