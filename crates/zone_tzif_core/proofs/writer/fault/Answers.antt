use Rattle.std.proofs.Common.{◌∙◌, ap, sym}
use Rattle.zone_tzif_core.{specs.Format.{is_one_line}, specs.Tzif.{name_bytes}, proofs.CheckLemmas.{fault_is}}
use Rattle.zone_tzif_core.proofs.writer.fault.Goals as goal

pub are_names-named-requires : goal.are_names-named-requires
are_names-named-requires c = c.requires.bytes ∙ ap name_bytes (sym c.requires.named)

pub returns : goal.returns
returns c =
    c.later_fault.ensures ∙ fault_is c.args.zone.now c.args.kinds.now c.args.names.now _ _ _ c.requires.times c.requires.few c.requires.distinct c.requires.named
    c.are_names-named.ensures c.are_small-offsets.ensures
    (c.is_one_line-footer.ensures ∙ ap is_one_line c.as_bytes.ensures.value)
