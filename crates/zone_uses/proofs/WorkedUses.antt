-- What the callers answer, at worked rows.
use Rattle.std.proofs.Common.{◌≡◌, ℕ, List, [], ◌∷◌, map, Some, None, refl, pos, negsuc}
use Rattle.civil_base.specs.DateTimes.{instant}
use Rattle.sefunjaro.specs.declared.error.Error.TheVariants as error
use Rattle.zone_alarm.specs.declared.ring.AlarmFault.TheVariants as alarm
use Rattle.zone_uses.specs.{Answers.{first_of, next_after}, Causes.{IsAlarmCause, IsFileCause, IsOpenCause}, MovedShown.{total_shown}, Moves.{total_around}, declared.moved.Moved.{Moved}}

-- after a second, not at it
next_times : map (next_after (pos 0 ∷ pos 5 ∷ pos 9 ∷ [])) (negsuc 0 ∷ pos 0 ∷ pos 4 ∷ pos 5 ∷ pos 8 ∷ pos 9 ∷ [])
    ≡ Some (pos 0) ∷ Some (pos 5) ∷ Some (pos 5) ∷ Some (pos 9) ∷ Some (pos 9) ∷ None ∷ []
next_times = refl

-- from the nanosecond of the change on
totals : map (total_around (pos 10) (pos 1) (pos 2)) (pos 9 ∷ pos 10 ∷ pos 11 ∷ []) ≡ pos 1 ∷ pos 2 ∷ pos 2 ∷ []
totals = refl

firsts : first_of (pos 1 ∷ pos 2 ∷ []) ∷ first_of [] ∷ [] ≡ Some (pos 1) ∷ None ∷ []
firsts = refl

-- a zone has its first offset before its change, and its second one from it on
around_its_change : (zone : Moved) → instant zone.change ≡ pos 10 → map (total_shown zone) (pos 9 ∷ pos 10 ∷ []) ≡ zone.before ∷ zone.after ∷ []
unfolding total_shown
around_its_change zone is = rw (is) refl

-- two days from 9999-12-31 on are past the years, and one is not
past_the_years : IsAlarmCause (pos 2932896) 2 (error.Alarm alarm.Range)
past_the_years = refl

in_the_years : IsAlarmCause (pos 2932896) 1 (error.Alarm alarm.Range) → ⊥
in_the_years cause = cc (cause)

-- and there want of memory is not told in place of that
no_want_of_memory : (IsAlarmCause (pos 2932896) 2 error.NoMemory → ⊥) × (IsAlarmCause (pos 2932896) 2 (error.Alarm alarm.NoMemory) → ⊥)
no_want_of_memory = (λ cause. cc (cause), λ cause. cause)

-- no call tells a cause of another call
other_calls : (source name bytes : List ℕ)
    → (IsOpenCause source name (error.Alarm alarm.Range) → ⊥) × (IsFileCause bytes error.TooLong → ⊥) × (IsAlarmCause (pos 0) 1 error.TooLong → ⊥)
other_calls source name bytes = (λ cause. cause, λ cause. cause, λ cause. cause)
