-- What a set's string is parsed as is the zone that it stands for.
use Rattle.std.proofs.Common.{◌≡◌, ℕ, List, Option, Ok, ℤ, sym, ap, ◌∙◌, Some, subst}
use Rattle.tz_lookup.specs.{declared.set.FixedTimespanSet.{FixedTimespanSet}, Zones.{set_of}}
use Rattle.tz_posix.specs.{Parses.{IsParsed}, PosixShown.{posix_of}, Resolved.{resolved}, Spells.{Spells}, Values.{TzValue}, declared.posix.PosixTz.{PosixTz}, Offsets.{given_of}, PosixZones.{Gives, posix_refusal}}
use Rattle.zone_tail.specs.Carried.{CarriesOn}
use Rattle.zone_tail.proofs.laws.both_offsets.Goals as goal
use Rattle.civil_base.specs.DateTimes.{instant}

one_zone : (set : FixedTimespanSet) (from : Option ℤ) (text : List ℕ) (zones : List FixedTimespanSet) (posix : PosixTz) (carries : CarriesOn set from text)
    → IsParsed text zones (Ok posix) → ((text : List ℕ) (x y : TzValue) → Spells text x → Spells text y → x ≡ y) → posix_of posix ≡ carries.zone
one_zone set from text zones posix carries parsed one =
    let same = one text parsed.0 carries.value parsed.1.spelled carries.spelled in
    let both = sym parsed.2 ∙ ap (resolved zones) same ∙ carries.stands_for zones in
    cc

pub returns-in-Ok-clause-same : goal.returns-in-Ok-clause-same
returns-in-Ok-clause-same c from text zones carries parsed covered =
    let t = instant c.args.date_time.now in
    let is = one_zone (set_of c.args.zone.now) from text zones c.args.posix.now carries parsed c.one_reading.ensures in
    let gives = subst (λ z. Gives z t (given_of c.in-Ok.offset)) is c.in-Ok.ensures.value in
    ap Some (c.to_utc.ensures ∙ carries.agrees t (given_of c.in-Ok.offset) covered gives ∙ sym c.get_offset_utc.ensures.total ∙ sym c.to_utc-of_zone.ensures)

pub returns-in-Err-clause-same : goal.returns-in-Err-clause-same
returns-in-Err-clause-same c from text zones carries parsed covered =
    let t = instant c.args.date_time.now in
    let is = one_zone (set_of c.args.zone.now) from text zones c.args.posix.now carries parsed c.one_reading.ensures in
    let none = ap (λ z. posix_refusal z t) is ∙ carries.accepts t covered in
    let refused = c.in-Err.ensures.refused in
    cc
