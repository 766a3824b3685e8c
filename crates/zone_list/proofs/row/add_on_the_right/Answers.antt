use Rattle.zone_list.proofs.ColumnLemmas.{right_is}
use Rattle.zone_list.proofs.row.add_on_the_right.Goals as goal

pub returns : goal.returns
returns c = rw (← right_is c.args.width c.args.column.now) c.add_padded.ensures
