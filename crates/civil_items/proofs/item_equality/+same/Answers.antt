use Rattle.std.proofs.Common.{sym}
use Rattle.civil_items.proofs.ItemLemmas.{other_lengths}
use Rattle.civil_items.proofs.item_equality.+same.Goals as goal

pub are_all_same-returns-then-ones-others : goal.are_all_same-returns-then-ones-others
are_all_same-returns-then-ones-others t c = sym (other_lengths c.args.ones.now c.args.others.now c.if-ones-others.true)
