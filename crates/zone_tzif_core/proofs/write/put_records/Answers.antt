use Rattle.std.proofs.Common.{◌<◌, subst, Bor}
use Rattle.zone_tzif_core.{specs.Shown.{kind_shown, names_seen}, specs.Tzif.{name_place, record_bytes}, specs.Zones.{KindValue}, specs.declared.values.Kind.{Kind}, proofs.PutLemmas.{put_kept, put_end, seen_at, seen_long}}
use Rattle.zone_tzif_core.proofs.write.put_records.Goals as goal

pub put_record-requires-clause-named : goal.put_record-requires-clause-named
put_record-requires-clause-named c =
    let x = c.kind-item.result in
    subst (λ (kind : KindValue). name_place (names_seen c.args.names.now) kind.name < 256)
    (seen_at (λ (kind : Bor Kind). kind_shown kind.now) c.args.kinds.now c.loop-kind.kind-index x c.loop-kind-test.true c.kind-item.is)
    (c.requires.named c.loop-kind.kind-index (kind_shown x.now) (seen_long (λ (kind : Bor Kind). kind_shown kind.now) c.args.kinds.now c.loop-kind.kind-index c.loop-kind-test.true))

pub loop-kind-preserved : goal.loop-kind-preserved
loop-kind-preserved c =
    put_kept (λ (kind : Bor Kind). kind_shown kind.now) (record_bytes (names_seen c.args.names.now)) c.args.into.now.items c.args.kinds.now c.loop-kind.kind-index
    c.loop-kind.into.items c.put_record.new.into.items c.kind-item.result c.loop-kind-test.true c.kind-item.is c.in_ok-put_record.ensures c.loop-kind.invariant

pub returns : goal.returns
returns c =
    put_end (λ (kind : Bor Kind). kind_shown kind.now) (record_bytes (names_seen c.args.names.now)) c.args.into.now.items c.args.kinds.now c.loop-kind.kind-index
    c.loop-kind.into.items c.loop-kind-test.false c.loop-kind.invariant
