use Rattle.zone_list.proofs.ColumnLemmas.{left_is}
use Rattle.zone_list.proofs.row.add_on_the_left.Goals as goal

pub returns : goal.returns
returns c = rw (← left_is c.args.width c.args.column.now) c.add_padded.ensures
