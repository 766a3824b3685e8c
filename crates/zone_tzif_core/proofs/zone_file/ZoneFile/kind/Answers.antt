use Rattle.std.proofs.Common.{Some, ap, sym, ◌∙◌, subst}
use Rattle.zone_tzif_core.{specs.Stored.{IsStored}, proofs.FileLemmas.{some_at}}
use Rattle.zone_tzif_core.proofs.zone_file.ZoneFile.kind.Goals as goal

pub named-requires : goal.named-requires
named-requires c =
    let file = c.args.self.now in
    let kind = c.index.result.now in
    let there = some_at file.kinds.items c.args.number kind c.requires ∙ ap Some (sym c.index.ensures) in
    subst (λ names. IsStored names kind) (sym c.deref.ensures.value) (file.stored c.args.number kind there)
