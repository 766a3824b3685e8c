use Rattle.std.proofs.Common.{◌∙◌, subst, string_bytes}
use Rattle.zone_tail.specs.Tails.{IsFaultOf}
use Rattle.zone_tail.specs.declared.outcome.TailFault.TheVariants as fault
use Rattle.zone_tzif.proofs.FooterLemmas.{carried, footer_is, no_footer, uncarried}
use Rattle.zone_tzif.proofs.file.footer_of.Goals as goal

pub returns-in-Ok-clause-text : goal.returns-in-Ok-clause-text
returns-in-Ok-clause-text g c =
    let one = c.one_tail.ensures (g.S.SpanTable.seen c.args.set.now) c.in-Ok.tail.from (string_bytes c.in-Ok.tail.text) c.requires c.in-Ok.ensures.told in
    footer_is (g.S.SpanTable.seen c.args.set.now) (string_bytes c.in-Ok.tail.text) c.in-Ok.ensures.told.none one.1

pub returns-in-Ok-clause-carried : goal.returns-in-Ok-clause-carried
returns-in-Ok-clause-carried g c =
    let one = c.one_tail.ensures (g.S.SpanTable.seen c.args.set.now) c.in-Ok.tail.from (string_bytes c.in-Ok.tail.text) c.requires c.in-Ok.ensures.told in
    carried (g.S.SpanTable.seen c.args.set.now) c.in-Ok.tail.from (string_bytes c.in-Ok.tail.text) c.in-Ok.ensures.told c.in-Ok.ensures.read one.0 one.1

pub returns-in-Err-Shape-clause-text : goal.returns-in-Err-Shape-clause-text
returns-in-Err-Shape-clause-text g c =
    c.new.ensures.bytes ∙ no_footer (g.S.SpanTable.seen c.args.set.now) fault.Shape (subst (IsFaultOf (g.S.SpanTable.seen c.args.set.now)) c.in-Err-Shape.field-0-is c.in-Err-Shape.ensures.told)

pub returns-in-Err-Shape-clause-carried : goal.returns-in-Err-Shape-clause-carried
returns-in-Err-Shape-clause-carried g c =
    uncarried (g.S.SpanTable.seen c.args.set.now) fault.Shape (subst (IsFaultOf (g.S.SpanTable.seen c.args.set.now)) c.in-Err-Shape.field-0-is c.in-Err-Shape.ensures.told)

pub returns-in-Err-OffsetRange-clause-text : goal.returns-in-Err-OffsetRange-clause-text
returns-in-Err-OffsetRange-clause-text g c =
    c.new-in-Err-OffsetRange.ensures.bytes ∙ no_footer (g.S.SpanTable.seen c.args.set.now) fault.OffsetRange (subst (IsFaultOf (g.S.SpanTable.seen c.args.set.now)) c.in-Err-OffsetRange.field-0-is c.in-Err-OffsetRange.ensures.told)

pub returns-in-Err-OffsetRange-clause-carried : goal.returns-in-Err-OffsetRange-clause-carried
returns-in-Err-OffsetRange-clause-carried g c =
    uncarried (g.S.SpanTable.seen c.args.set.now) fault.OffsetRange (subst (IsFaultOf (g.S.SpanTable.seen c.args.set.now)) c.in-Err-OffsetRange.field-0-is c.in-Err-OffsetRange.ensures.told)

pub returns-in-Err-Name-clause-text : goal.returns-in-Err-Name-clause-text
returns-in-Err-Name-clause-text g c =
    c.new-in-Err-Name.ensures.bytes ∙ no_footer (g.S.SpanTable.seen c.args.set.now) fault.Name (subst (IsFaultOf (g.S.SpanTable.seen c.args.set.now)) c.in-Err-Name.field-0-is c.in-Err-Name.ensures.told)

pub returns-in-Err-Name-clause-carried : goal.returns-in-Err-Name-clause-carried
returns-in-Err-Name-clause-carried g c =
    uncarried (g.S.SpanTable.seen c.args.set.now) fault.Name (subst (IsFaultOf (g.S.SpanTable.seen c.args.set.now)) c.in-Err-Name.field-0-is c.in-Err-Name.ensures.told)
