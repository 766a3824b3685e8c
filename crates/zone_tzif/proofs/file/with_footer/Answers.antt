use Rattle.std.proofs.Common.{◌∙◌, ap}
use Rattle.zone_tzif_core.specs.Totals.{file_total_at}
use Rattle.zone_tzif.{specs.Values.{value_by}, proofs.TotalLemmas.{totals_kept}}
use Rattle.zone_tzif.proofs.file.with_footer.Goals as goal

pub returns-in-Ok-clause-told : goal.returns-in-Ok-clause-told
returns-in-Ok-clause-told g c = (c.in-Ok.ensures.writable, c.in-Ok.ensures.written)

pub returns-in-Ok-clause-totals : goal.returns-in-Ok-clause-totals
returns-in-Ok-clause-totals g c = λ zone read t.
    let value = value_by c.args.saves (g.S.SpanTable.seen c.args.set.now) c.args.footer.now in
    ap (λ z. file_total_at z t) (c.one_reading.ensures c.in-Ok.file.items zone value read (c.each_denotes.ensures c.args.version c.in-Ok.file.items value c.in-Ok.ensures))
    ∙ totals_kept c.args.saves (g.S.SpanTable.seen c.args.set.now) c.args.footer.now t

pub returns-in-Err-clause-told : goal.returns-in-Err-clause-told
returns-in-Err-clause-told g c = c.cause_of.ensures c.args.footer.now c.requires.offset c.requires.footer
