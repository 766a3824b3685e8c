use Rattle.std.proofs.Common.{sym, ◌∙◌}
use Rattle.zone_tzif.proofs.FormLemmas.{fault_is}
use Rattle.zone_tzif.proofs.call.tail_of.Goals as goal

pub returns-in-Some : goal.returns-in-Some
returns-in-Some g c =
    fault_is (g.S.SpanTable.seen c.args.set.now) c.in-Some.fault (c.is_saved_for_good.ensures.no c.if-is_saved_for_good.false) (sym c.fault_in.ensures ∙ c.in-Some.is)

pub returns-then-is_saved_for_good : goal.returns-then-is_saved_for_good
returns-then-is_saved_for_good g c = c.is_saved_for_good.ensures.yes c.if-is_saved_for_good.true
