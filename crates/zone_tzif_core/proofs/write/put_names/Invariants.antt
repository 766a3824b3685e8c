use Rattle.std.proofs.Common.{Bor, List, ℕ, ◌++◌, ◌∷◌, []}
use Rattle.zone_tzif_core.proofs.PutLemmas.{PutSoFar}
use Rattle.zone_tzif_core.proofs.write.put_names.Given as goal

abbrev pub invariant-loop-name : goal.invariant-loop-name
invariant-loop-name l = PutSoFar (λ (name : Bor (List ℕ)). name.now) (λ name. name ++ 0 ∷ []) l.initial.into.items l.names l.name-index l.into.items
