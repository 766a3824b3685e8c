use Rattle.std.proofs.{Common.{map, length, sym}, lemmas.List.{length-map}}
use Rattle.zone_table.specs.Values.{line_value}
use Rattle.zone_plain.proofs.links.settle.Goals as goal

pub settle_each-requires : goal.settle_each-requires
settle_each-requires c =
    c.nothing_seen-seen.ensures c.in-Ok.declared (map line_value c.args.lines.now) (length c.args.lines.now) c.in-Ok.ensures
    (sym (length-map c.args.lines.now line_value))
