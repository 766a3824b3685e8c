use Rattle.std.proofs.Common.{◌≤◌, length, ap, sym, ◌∙◌, subst, arith}
use Rattle.tz_ever.specs.ZoneShown.{zone_set_of}
use Rattle.tz_lookup.specs.{Sets.{span_in}, declared.set.FixedTimespanSet.{FixedTimespanSet}}
use Rattle.zone_tzif.proofs.FrontLemmas.{front_length, span_front}
use Rattle.zone_tzif.proofs.until.UntilSpanTable.span.Goals as goal

pub span-requires : goal.span-requires
span-requires c =
    let others = (zone_set_of c.args.self.now.set.now).others in
    subst (λ (set : FixedTimespanSet). c.args.index ≤ length set.others) (sym c.compact.ensures.seen)
    (omega (arith, c.requires, front_length others c.args.self.now.count c.args.self.now.within, c.args.self.now.within))

pub returns : goal.returns
returns c =
    c.span.ensures ∙ ap (λ s. span_in s c.args.index) c.compact.ensures.seen
    ∙ sym (span_front (zone_set_of c.args.self.now.set.now) c.args.self.now.count c.args.index c.requires)
