use Rattle.std.proofs.{Common.{◌<◌, length, w64, SFits, rules, ap, sym, ◌∙◌, subst, arith}, lemmas.Int.{to_z-of_z}}
use Rattle.tz_ever.specs.ZoneShown.{zone_set_of}
use Rattle.tz_lookup.specs.{Sets.{shifts_of}, Spans.{Shift, shift_at}, declared.set.FixedTimespanSet.{FixedTimespanSet}}
use Rattle.zone_tzif.proofs.FrontLemmas.{front_length, shift_front, take_length}
use Rattle.zone_tzif.proofs.until.UntilSpanTable.time.Goals as goal

pub time-requires : goal.time-requires
time-requires c =
    let others = (zone_set_of c.args.self.now.set.now).others in
    subst (λ (set : FixedTimespanSet). c.args.index < length set.others) (sym c.compact.ensures.seen)
    (omega (arith, c.requires, front_length others c.args.self.now.count c.args.self.now.within, c.args.self.now.within))

pub returns : goal.returns
returns c =
    let others = (zone_set_of c.args.self.now.set.now).others in
    let fits : SFits w64 c.time.result = search rules in
    to_z-of_z w64 _ fits ∙ c.time.ensures ∙ ap (λ s. (shift_at (shifts_of s) c.args.index).0) c.compact.ensures.seen
    ∙ sym (ap (λ (s : Shift). s.0) (shift_front others c.args.self.now.count c.args.index (take_length others c.args.self.now.count c.args.index c.requires)))
