use Rattle.zone_tzif_core.{specs.Tzif.{is_same}, specs.Shown.{kind_shown}, specs.declared.values.Kind.{Kind}, proofs.DistinctLemmas.{added_new}}
use Rattle.zone_tzif_core.proofs.distinct.add_kind.Goals as goal
use Rattle.std.proofs.Common.{Bor}

pub returns : goal.returns
returns c = added_new (λ (kind : Bor Kind). kind_shown kind.now) is_same c.args.kinds.now.items c.as_slice.result.now c.push.new.self.items c.args.kind c.if-among.ensures c.as_slice.ensures.value c.in_ok-push.ensures.items
