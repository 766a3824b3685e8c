use Rattle.std.proofs.Common.{Bor, List, ℕ, bytes_eq}
use Rattle.zone_tzif_core.proofs.DistinctLemmas.{added_new}
use Rattle.zone_tzif_core.proofs.distinct.add_name.Goals as goal

pub returns : goal.returns
returns c = added_new (λ (name : Bor (List ℕ)). name.now) bytes_eq c.args.names.now.items c.as_slice.result.now c.push.new.self.items c.args.name c.if-among.ensures c.as_slice.ensures.value c.in_ok-push.ensures.items
