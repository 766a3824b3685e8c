use Rattle.std.proofs.Common.{subst, sym}
use Rattle.zone_line.specs.Patterns.{IsBuiltFrom}
use Rattle.zone_line.proofs.reader.LineReader.new.Goals as goal

pub invariant_of-result : goal.invariant_of-result
invariant_of-result c =
    let parser = c.args.parser.now in
    record {
      empty_is = c.in_ok-empty.ensures _ (subst (IsBuiltFrom _) (sym c.deref.ensures) parser.empty_is);
      zone_is = c.in_ok-zone.ensures _ (subst (IsBuiltFrom _) (sym c.deref-2.ensures) parser.zone_is);
      continuation_is = c.in_ok-continuation.ensures _ (subst (IsBuiltFrom _) (sym c.deref-3.ensures) parser.continuation_is);
      rule_is = c.in_ok-rule.ensures _ (subst (IsBuiltFrom _) (sym c.deref-4.ensures) parser.rule_is);
      link_is = c.in_ok-link.ensures _ (subst (IsBuiltFrom _) (sym c.deref-5.ensures) parser.link_is);
      day_is = c.in_ok-day.ensures _ (subst (IsBuiltFrom _) (sym c.deref-6.ensures) parser.day_is);
      hm_is = c.in_ok-hm.ensures _ (subst (IsBuiltFrom _) (sym c.deref-7.ensures) parser.hm_is);
      hms_is = c.in_ok-hms.ensures _ (subst (IsBuiltFrom _) (sym c.deref-8.ensures) parser.hms_is);
    }
