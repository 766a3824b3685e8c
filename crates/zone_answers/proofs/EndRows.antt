-- Which statuses write nothing.
use Rattle.std.proofs.Common.{◌≢◌, refl, inl, inr}
use Rattle.zone_source.specs.{Statuses.{IsSilent}, declared.running.Status.{Status}}
use Rattle.zone_source.specs.declared.running.Status.TheVariants as status

-- nothing is written by every status but those of the lines, of a fault's line, and of a failed output
silent_but_by_three : (end : Status) → end ≢ status.Done → end ≢ status.Fault → end ≢ status.Write → IsSilent end
silent_but_by_three status.Done done fault write = absurd (done refl)
silent_but_by_three status.Words done fault write = inl refl
silent_but_by_three status.Fault done fault write = absurd (fault refl)
silent_but_by_three status.Read done fault write = inr (inl refl)
silent_but_by_three status.Write done fault write = absurd (write refl)
silent_but_by_three status.NoMemory done fault write = inr (inr (inl refl))
silent_but_by_three status.TooLong done fault write = inr (inr (inr refl))
