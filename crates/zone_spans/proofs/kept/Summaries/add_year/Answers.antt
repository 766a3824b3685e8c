use Rattle.std.{proofs.Common.{◌+◌, ◌++◌, ◌≤ℤ◌, List, ℤ, None, IsTrue, subst, sym, ap, ◌∙◌, pos, length, int_le, rules, to_z, of_z, w64, SFits, arith}, specs.List.{last_or, list_all}, proofs.lemmas.Int.{to_z-of_z}}
use Rattle.zone_table.specs.LineBounds.{are_small_seconds}
use Rattle.zone_spans.specs.{Bounds.{can_fire, is_bounded_firing}, Firings.{Firing, year_firings}, Kept.{AreSummaries, IsLastSummary}, declared.kept.Summary.{Summary}, Years.{earliest_year}}
use Rattle.zone_spans.proofs.{KeptLemmas.{last_is, sound_savings, unended_small, year_summed}, SoundLemmas.{bounded_offset, sound_rules}}
use Rattle.zone_spans.proofs.kept.Summaries.add_year.Goals as goal

pub fire_year-requires-clause-rules : goal.fire_year-requires-clause-rules
fire_year-requires-clause-rules c =
    let f : SFits w64 c.from-year.result = search rules in
    let year_is = to_z-of_z w64 c.from-year.result f ∙ c.from-year.ensures in
    subst (λ y. IsTrue (list_all (can_fire y) c.args.line.now.rules)) (sym year_is)
    (sound_rules c.args.line.now c.requires.line c.args.count (omega arith))

pub fire_year-requires-clause-offset : goal.fire_year-requires-clause-offset
fire_year-requires-clause-offset c = bounded_offset c.args.line.now c.requires.line.bounded

pub fire_year-requires-clause-small : goal.fire_year-requires-clause-small
fire_year-requires-clause-small c =
    let line = c.args.line.now in
    let summaries = c.args.self.now.years.items in
    let summary : Summary = c.last_summary-summary.result in
    let f : SFits w64 summary.saving = search rules in
    let last = last_is line.info.offset line.rules c.args.self.now.quiet summaries summary c.requires.are
    (subst (λ (ms : List Summary). IsLastSummary ms summary) c.as_slice.ensures.value c.last_summary-summary.ensures) in
    record {
      fired = ap (list_all is_bounded_firing) c.restart.ensures.fired;
      saving = ap are_small_seconds (c.restart.ensures.saving ∙ to_z-of_z w64 summary.saving f ∙ last.saving)
          ∙ unended_small line.info.offset line.rules (c.args.self.now.quiet + length summaries) (sound_savings line c.requires.line);
    }

pub returns-clause-are : goal.returns-clause-are
returns-clause-are c =
    let line = c.args.line.now in
    let offset = line.info.offset in
    let quiet = c.args.self.now.quiet in
    let fired = c.fire_year.new.self.fired.items in
    let summaries = c.args.self.now.years.items in
    let summary : Summary = c.last_summary-summary.result in
    let year : ℤ = to_z w64 (of_z w64 c.from-year.result) in
    let f : SFits w64 c.from-year.result = search rules in
    let g : SFits w64 summary.saving = search rules in
    let h : SFits w64 c.fire_year.new.self.saving = search rules in
    let k : SFits w64 summary.latest = search rules in
    let m : SFits w64 c.latest_of-latest.result = search rules in
    let saving_is = c.restart.ensures.saving ∙ to_z-of_z w64 summary.saving g in
    let later_is = sym (to_z-of_z w64 c.latest_of-latest.result m) in
    let here = c.in_ok-fire_year.ensures.fired in
    subst (λ (ms : List Summary). AreSummaries offset line.rules quiet ms) (sym c.in_ok-push.ensures.items)
    (year_summed offset line.rules quiet fired summaries summary year (to_z w64 (of_z w64 c.fire_year.new.self.saving)) (to_z w64 (of_z w64 c.latest_of-latest.result))
    c.last_of-last.result (omega (arith, c.requires.count, c.requires.most))
    (to_z-of_z w64 c.from-year.result f ∙ c.from-year.ensures ∙ ap (λ n. pos (earliest_year + n)) c.requires.count)
    (subst (λ (ms : List Summary). IsLastSummary ms summary) c.as_slice.ensures.value c.last_summary-summary.ensures) c.requires.are
    (here.fired ∙ (λ i. c.restart.ensures.fired i ++ (year_firings year offset None (saving_is i) line.rules).0))
    (to_z-of_z w64 c.fire_year.new.self.saving h ∙ here.saving ∙ (λ i. (year_firings year offset None (saving_is i) line.rules).1))
    (subst (λ l. IsTrue (list_all (λ g. int_le g.time l) fired)) later_is
    (subst (λ (fs : List Firing). IsTrue (list_all (λ g. int_le g.time c.latest_of-latest.result) fs)) c.as_slice-2.ensures.value
    c.latest_of-latest.ensures.firings))
    (subst (λ l. summary.latest ≤ℤ l) later_is
    (subst (λ l. l ≤ℤ c.latest_of-latest.result) (to_z-of_z w64 summary.latest k) c.latest_of-latest.ensures.second))
    (c.last_of-last.ensures ∙ ap (last_or summary.last) c.as_slice-3.ensures.value)
    c.in_ok-fire_year.ensures.small.fired)
