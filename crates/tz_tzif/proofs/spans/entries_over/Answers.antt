use Rattle.std.proofs.{Common.{◌≡◌, List, [], map, option_map, ℤ, FitsSigned, w64, to_z, of_z, to_z-of_z, rules, sym, ap, ◌∙◌, subst, arith}, lemmas.Int.{ints}}
use Rattle.basics.specs.{ComparisonLaws.{lt_from_pass}, SignedLaws.{signed}}
use Rattle.zone_spans.specs.Entries.{Entry, total}
use Rattle.tz_lookup.specs.Sets.{IsSpanTime, shift_of}
use Rattle.zone_tzif_core.specs.ZoneFiles.{zone_seen}
use Rattle.tz_tzif.{specs.{FooterShown.{footer_shown}, InForce.{kind_in}, Opened.{span_of}, Walks.{AreBefore, AreShifts, Tells}}, proofs.SpanLemmas.{before_more, nearer, no_shifts, shifts_more, shifts_of_more, told_first, told_more}}
use Rattle.tz_tzif.proofs.spans.entries_over.Goals as goal

none_before : (end : ℤ) → AreBefore [] end
none_before end i within = absurd (omega (arith, within))

pub changes-init : goal.changes-init
changes-init c =
    let kind = kind_in (zone_seen c.args.zone.now) (option_map footer_shown c.args.footer.now) in
    let fits : FitsSigned w64 c.next_in-second.result = search rules in
    let from = to_z w64 (of_z w64 c.args.from) in
    let next = to_z w64 (of_z w64 c.next_in-second.result) in
    let none = sym c.new-entries.ensures in
    record {
      later = omega (arith, ints, c.next_in-second.ensures.later, to_z-of_z fits);
      tells = subst (Tells kind from next (span_of (kind from))) none
          (told_first kind from next (λ s begun over. c.next_in-second.ensures.same s begun (omega (arith, ints, over, to_z-of_z fits))));
      before = subst (λ (es : List Entry). AreBefore (map shift_of es) next) none (none_before next);
      shifts = subst (λ (es : List Entry). AreShifts (map shift_of es)) none no_shifts;
    }

pub changes-smaller : goal.changes-smaller
changes-smaller c =
    let fits : FitsSigned w64 c.next_in-second-in-changes.result = search rules in
    let here = to_z w64 c.changes.second-bits in
    let end = to_z w64 (of_z w64 c.args.end) in
    let over = lt_from_pass here end c.changes-test.true in
    nearer end here (to_z w64 (of_z w64 c.next_in-second-in-changes.result)) over (omega (arith, ints, c.next_in-second-in-changes.ensures.later, to_z-of_z fits))

pub changes-preserved : goal.changes-preserved
changes-preserved c =
    let kind = kind_in (zone_seen c.args.zone.now) (option_map footer_shown c.args.footer.now) in
    let fits : FitsSigned w64 c.next_in-second-in-changes.result = search rules in
    let from = to_z w64 (of_z w64 c.args.from) in
    let here = to_z w64 c.changes.second-bits in
    let next = to_z w64 (of_z w64 c.next_in-second-in-changes.result) in
    let es = c.changes.entries in
    let span = c.in_ok-span.span in
    let so_far = c.changes.invariant in
    let later = c.next_in-second-in-changes.ensures.later in
    let is = c.in_ok-span.ensures.span ∙ ap span_of c.held_in.ensures in
    let over = lt_from_pass here (to_z w64 (of_z w64 c.args.end)) c.changes-test.true in
    let time : IsSpanTime here = (
      omega (arith, signed, so_far.later, c.requires.from.first, to_z-of_z c.ranges.from),
      omega (arith, signed, over, c.requires.end, to_z-of_z c.ranges.end),
    ) in
    let shifts = ap (map shift_of) c.in_ok-push.ensures.ok ∙ shifts_of_more es (here, span) in
    record {
      later = omega (arith, ints, so_far.later, later, to_z-of_z fits);
      tells = subst (Tells kind from next (span_of (kind from))) (sym c.in_ok-push.ensures.ok)
          (told_more kind from here next es span so_far.tells is
          (λ s begun early. c.next_in-second-in-changes.ensures.same s begun (omega (arith, ints, early, to_z-of_z fits))));
      before = subst (λ ss. AreBefore ss next) (sym shifts)
          (before_more (map shift_of es) (here, total span) so_far.before next (omega (arith, ints, later, to_z-of_z fits)));
      shifts = subst AreShifts (sym shifts)
          (shifts_more (map shift_of es) (here, total span) so_far.before so_far.shifts time c.in_ok-span.ensures.range);
    }
