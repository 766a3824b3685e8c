use Rattle.std.proofs.Common.{Bor, List, ℕ, ◌++◌, ◌∷◌, []}
use Rattle.zone_tzif_core.{specs.Tzif.{name_bytes}, proofs.PutLemmas.{put_kept_at, put_end}}
use Rattle.zone_tzif_core.proofs.write.put_names.Goals as goal

pub loop-name-preserved : goal.loop-name-preserved
loop-name-preserved c =
    put_kept_at (λ (name : Bor (List ℕ)). name.now) (λ name. name ++ 0 ∷ []) c.args.into.now.items c.args.names.now c.loop-name.name-index
    c.loop-name.into.items c.put_name.new.into.items _ c.loop-name-test.true c.in_ok-put_name.ensures c.loop-name.invariant

pub returns : goal.returns
unfolding name_bytes
returns c =
    put_end (λ (name : Bor (List ℕ)). name.now) (λ name. name ++ 0 ∷ []) c.args.into.now.items c.args.names.now c.loop-name.name-index
    c.loop-name.into.items c.loop-name-test.false c.loop-name.invariant
