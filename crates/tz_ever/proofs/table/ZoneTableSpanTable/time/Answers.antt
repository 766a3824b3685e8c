use Rattle.std.proofs.{Common.{◌≡◌, ◌+ℤ◌, to_z, of_z, w64, SFits, rules, ap, subst, sym, ◌∙◌}, lemmas.Int.{to_z-of_z}}
use Rattle.tz_lookup.specs.{Sets.{IsSpanTime, shifts_of}, Spans.{shift_at}}
use Rattle.tz_ever.{specs.{TablesShown.{table_of}, ZoneShown.{zone_set_of}}, proofs.TableLemmas.{time_bound, time_of_place}}
use Rattle.tz_ever.proofs.table.ZoneTableSpanTable.time.Goals as goal

pub moved-requires-clause-second : goal.moved-requires-clause-second
moved-requires-clause-second c =
    let zone = c.args.self.now.set.now in
    let place = c.place-place.result in
    let fits : SFits w64 c.time.result = search rules in
    let time : to_z w64 (of_z w64 c.time.result) ≡ (shift_at (shifts_of (zone_set_of zone)) place.entry).0 =
    to_z-of_z w64 _ fits ∙ c.time.ensures ∙ ap (λ s. (shift_at (shifts_of s) place.entry).0) c.compact-set.ensures.seen in
    subst IsSpanTime (sym time) (time_bound (zone_set_of zone) place.entry zone.accepted c.place-place.ensures.place.within)

pub returns : goal.returns
returns c =
    let zone = c.args.self.now.set.now in
    let place = c.place-place.result in
    let fits : SFits w64 c.time.result = search rules in
    let seconds : SFits w64 place.seconds = search rules in
    let moved_fits : SFits w64 c.moved.result = search rules in
    let time : to_z w64 (of_z w64 c.time.result) ≡ (shift_at (shifts_of (zone_set_of zone)) place.entry).0 =
    to_z-of_z w64 _ fits ∙ c.time.ensures ∙ ap (λ s. (shift_at (shifts_of s) place.entry).0) c.compact-set.ensures.seen in
    to_z-of_z w64 _ moved_fits ∙ c.moved.ensures ∙ (λ i. time i +ℤ to_z-of_z w64 _ seconds i)
    ∙ time_of_place (table_of c.args.self.now) (zone_set_of zone) c.args.index place.entry place.seconds c.place-place.ensures.place c.requires
