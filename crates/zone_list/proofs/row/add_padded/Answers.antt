use Rattle.std.proofs.Common.{arith}
use Rattle.zone_list.proofs.ColumnLemmas.{length_column}
use Rattle.zone_list.proofs.row.add_padded.Goals as goal

pub unreachable-requires : goal.unreachable-requires
unreachable-requires c =
    let long = rw (c.in_ok-make_room.ensures, c.options_of.ensures) at c.in-Err.ensures.wrote.too_long in
    omega (arith, long, length_column c.args.side c.args.width c.char_count-count.result c.args.column.now)
