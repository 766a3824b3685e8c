use Rattle.std.proofs.{Common.{◌∙◌, sym, ap, [], Bor, bytes_eq, string_bytes}, lemmas.Simd.{map-map}}
use Rattle.zone_tzif_core.{specs.Shown.{names_seen}, specs.Tzif.{added, each_once, names_of}, specs.declared.values.Kind.{Kind}, proofs.DistinctLemmas.{once_kept, once_end}}
use Rattle.zone_tzif_core.proofs.distinct.distinct_names.Goals as goal

pub loop-kind-preserved : goal.loop-kind-preserved
loop-kind-preserved c =
    once_kept (λ (kind : Bor Kind). string_bytes kind.now.name) bytes_eq [] c.args.kinds.now c.loop-kind.kind-index (names_seen c.loop-kind.names.items)
    (names_seen c.add_name.new.names.items) c.kind-item.result c.loop-kind-test.true c.kind-item.is
    (c.in_ok-add_name.ensures ∙ ap (added bytes_eq (names_seen c.loop-kind.names.items)) c.as_str.ensures.value) c.loop-kind.invariant

pub returns : goal.returns
unfolding names_of
returns c =
    once_end _ bytes_eq _ c.args.kinds.now c.loop-kind.kind-index _ c.loop-kind-test.false c.loop-kind.invariant
    ∙ ap (each_once bytes_eq []) (sym (map-map _ _ c.args.kinds.now))
