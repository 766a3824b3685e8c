use Rattle.std.proofs.Common.{◌∷◌, []}
use Rattle.zone_tzif_core.{specs.Shown.{shift_shown, kinds_seen}, specs.Tzif.{kind_number}, proofs.PutLemmas.{PutSoFar}}
use Rattle.zone_tzif_core.proofs.write.put_numbers.Given as goal

abbrev pub invariant-loop-shift : goal.invariant-loop-shift
invariant-loop-shift l = PutSoFar shift_shown (λ shift. kind_number (kinds_seen l.kinds) shift.1 ∷ []) l.initial.into.items l.shifts l.shift-index l.into.items
