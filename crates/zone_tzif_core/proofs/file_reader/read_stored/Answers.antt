use Rattle.std.proofs.{Common.{◌≡◌, ◌-◌, arith}, lemmas.Result.{err_from_is_err_and}}
use Rattle.zone_tzif_core.{specs.Stored.{stored_kind, IsStored}, proofs.LoopLemmas.{kinds_kept, kinds_refused, kinds_end, fault_passes}, proofs.NameLemmas.{grown_by}}
use Rattle.zone_tzif_core.proofs.file_reader.read_stored.Goals as goal

pub returns-in_err-stored-clause-told : goal.returns-in_err-stored-clause-told
returns-in_err-stored-clause-told c =
    let p = err_from_is_err_and c.from_residual.result c.from_residual.ensures.1 in
    rw (p.1, p.2) (fault_passes c.in_err-stored.field-0.0 _ _ c.in_err-stored.ensures.told (kinds_refused (stored_kind c.args.names.now) c.args.names.now c.args.count c.args.records.now c.loop-i.i c.loop-i.kinds.items c.loop-i-test.true c.loop-i.invariant.so_far))

pub loop-i-preserved : goal.loop-i-preserved
loop-i-preserved c = record {
  so_far = kinds_kept (stored_kind c.args.names.now) c.args.names.now c.args.count c.args.records.now c.loop-i.i c.loop-i.kinds.items c.push.new.self.items c.in_ok-stored.field-0 c.loop-i-test.true c.in_ok-push.ensures.items c.in_ok-stored.ensures.told c.loop-i.invariant.so_far;
  kept = grown_by (IsStored c.args.names.now) c.loop-i.kinds.items c.push.new.self.items c.in_ok-stored.field-0 c.in_ok-push.ensures.items c.loop-i.invariant.kept c.in_ok-stored.ensures.kept;
}

pub returns-clause-told : goal.returns-clause-told
returns-clause-told c =
    let over : c.args.count - c.loop-i.i ≡ 0 = omega arith in
    kinds_end _ _ _ _ _ over c.loop-i.invariant.so_far
