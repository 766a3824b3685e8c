use Rattle.std.proofs.Common.{Some, ◌∙◌, ap, sym}
use Rattle.zone_tzif_core.proofs.FileLemmas.{some_at}
use Rattle.zone_tzif_core.proofs.reader.owned_change.Goals as goal

pub kind-requires : goal.kind-requires
kind-requires c =
    let file = c.args.file.now in
    let change = c.index.result.now in
    file.numbered c.args.place change (some_at file.changes.items c.args.place change c.requires ∙ ap Some (sym c.index.ensures))
