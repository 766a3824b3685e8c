use Rattle.zone_uses.proofs.OpenedLemmas.{opened_from, whatever_is_found, cause_from}
use Rattle.zone_uses.proofs.opened.zone_of_source.Goals as goal

pub returns : goal.returns
returns c =
    let source = c.args.source.now in
    let name = c.args.name.now in
    let table = c.in_ok-table.table in
    let found = c.open_zone.result in
    let is_table = c.in_ok-table.ensures.table in
    let short = c.in_ok-table.ensures.short in
    let valid = c.in_ok-table.ensures.ok in
    record {
      short = whatever_is_found found short;
      valid = whatever_is_found found valid;
      opened = opened_from source name table found is_table c.open_zone.ensures.named c.open_zone.ensures.ok;
      err = cause_from source name table found short valid is_table c.open_zone.ensures.err;
    }
