use Rattle.std.{proofs.Common.{ℕ, ℤ, ◌<◌, FitsSigned, slice_index_or}, specs.Int.{w64}}
use Rattle.zone_tzif_core.{specs.Numbers.{eight_bytes}, specs.Shown.{shift_shown, shifts_shown}, specs.Zones.{KindValue}, proofs.PutLemmas.{PutSoFar}}
use Rattle.zone_tzif_core.proofs.write.put_times.Given as goal

abbrev pub invariant-loop-shift : goal.invariant-loop-shift
invariant-loop-shift l = record {
  put : PutSoFar shift_shown (λ shift. eight_bytes shift.0) l.initial.into.items l.shifts l.shift-index l.into.items;
  fit : (k : ℕ) → k < l.shift-index → (d : ℤ × KindValue) → FitsSigned w64 (slice_index_or (shifts_shown l.shifts) k d).0;
}
