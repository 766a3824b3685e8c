use Rattle.std.proofs.Common.{◌+◌, ap, ◌∙◌}
use Rattle.tz_lookup.specs.Sets.{span_in}
use Rattle.tz_ever.{specs.{TablesShown.{table_of}, ZoneShown.{zone_set_of}}, proofs.TableLemmas.{span_of_place}}
use Rattle.tz_ever.proofs.table.ZoneTableSpanTable.span.Goals as goal

pub returns-else-index-eq0 : goal.returns-else-index-eq0
returns-else-index-eq0 c =
    let table = c.args.self.now in
    let place = c.place-place.result in
    c.span-else-index-eq0.ensures ∙ ap (λ s. span_in s (place.entry + 1)) c.compact-set.ensures.seen
    ∙ span_of_place (table_of table) (zone_set_of table.set.now) c.args.index place.entry place.seconds c.if-index-eq0.false c.requires c.place-place.ensures.place
