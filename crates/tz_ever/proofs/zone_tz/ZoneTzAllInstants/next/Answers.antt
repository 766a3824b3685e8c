use Rattle.std.proofs.Common.{map, ap, sym, ◌∙◌, ◌∷◌}
use Rattle.civil_base.specs.{DateTimes.{at_offset, offset_of}, declared.offset_date_time.OffsetDateTime.{OffsetDateTime}}
use Rattle.tz_lookup.specs.CompactZones.{compact_of}
use Rattle.tz_ever.specs.Ever.{ever_left}
use Rattle.tz_ever.proofs.zone_tz.ZoneTzAllInstants.next.Goals as goal

pub returns-in-None : goal.returns-in-None
unfolding ever_left
returns-in-None c =
    let at = map (λ (date : OffsetDateTime). at_offset c.args.cursor.now.local (offset_of date)) in
    (ap at c.in-None.ensures.0, ap at c.in-None.ensures.1)

pub returns-in-Some : goal.returns-in-Some
unfolding ever_left
returns-in-Some c =
    let local = c.args.cursor.now.local in
    ap (map (λ (date : OffsetDateTime). at_offset local (offset_of date))) c.in-Some.ensures
    ∙ ap (λ (date : OffsetDateTime). date ∷ ever_left (compact_of c.args.self.now.zone) local c.next.new.cursor)
    (sym (c.assume_offset.ensures.value ∙ ap (at_offset local) c.offset.ensures))
