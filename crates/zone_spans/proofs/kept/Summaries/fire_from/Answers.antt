use Rattle.std.{proofs.Common.{◌≡◌, ℕ, ◌+◌, ◌≤◌, ◌≤ℤ◌, List, Option, Some, ℤ, IsTrue, sym, ap, ◌∙◌, subst, length, take, rules, to_z, of_z, w64, SFits}, proofs.lemmas.Int.{to_z-of_z}, proofs.lemmas.Result.{IfOk-weaker}, specs.List.{list_all}}
use Rattle.zone_table.specs.{LineBounds.{are_small_seconds}, declared.change.ChangeTime.{ChangeTime}}
use Rattle.zone_spans.specs.{Bounds.{IsSound, is_bounded_firing, is_end}, Firings.{Firing, firings_of_years}, Kept.{AreBelow, AreSummaries, IsLastSummary, IsLimit}, Lines.{Line}, Stands.{StandsFor}, declared.kept.Summary.{Summary}}
use Rattle.zone_spans.proofs.{KeptLemmas.{Serves, stand_on_ok, summary_serves, sooner_limit, sound_savings}, SoundLemmas.{bounded_offset, sound_end}}
use Rattle.zone_spans.proofs.kept.Summaries.fire_from.Goals as goal

pub limit_of-requires-clause-end : goal.limit_of-requires-clause-end
limit_of-requires-clause-end c =
    subst (λ (e : Option ChangeTime). IsTrue (is_end e)) (ap (λ (l : Line). l.end) (sym c.line.view_is))
    (sound_end c.args.line.now c.requires.line)

pub limit_of-requires-clause-offset : goal.limit_of-requires-clause-offset
limit_of-requires-clause-offset c =
    let fits : SFits w64 c.line.inside.info.now.offset = search rules in
    subst (λ s. IsTrue (are_small_seconds s)) (ap (λ (l : Line). l.info.offset) (sym c.line.view_is)
    ∙ sym (to_z-of_z w64 c.line.inside.info.now.offset fits))
    (bounded_offset c.args.line.now c.requires.line.bounded)

-- the summary that is taken serves the line as it was passed
taken : {years : ℕ} {line inside : Line} {limit second start : ℤ} {quiet : ℕ} {summaries ones : List Summary} {count : ℕ} {summary : Summary}
    → IsSound years line → inside ≡ line → SFits w64 inside.info.offset → SFits w64 limit → SFits w64 second → SFits w64 start
    → IsLimit inside.end (to_z w64 (of_z w64 inside.info.offset)) limit → second ≤ℤ to_z w64 (of_z w64 start) → second ≤ℤ to_z w64 (of_z w64 limit)
    → AreSummaries line.info.offset line.rules quiet summaries → ones ≡ summaries
    → count ≤ length ones → AreBelow (to_z w64 (of_z w64 second)) count ones → IsLastSummary (take count ones) summary
    → Serves start line.info.offset line.end line.rules (quiet + count) summary
taken {years} {line} {inside} {limit} {second} {start} {quiet} {summaries} {ones} {count} {summary} sound same f g h k ends before below are ones_are le all last =
    let its : IsLimit line.end line.info.offset limit =
    subst (λ (l : Line). IsLimit l.end l.info.offset limit) same
    (subst (λ o. IsLimit inside.end o limit) (to_z-of_z w64 inside.info.offset f) ends) in
    summary_serves second start line.info.offset line.end line.rules quiet summaries count summary
    (sooner_limit line.end line.info.offset limit second its (subst (λ l. second ≤ℤ l) (to_z-of_z w64 limit g) below))
    (subst (λ s. second ≤ℤ s) (to_z-of_z w64 start k) before) (sound_savings line sound) are
    (subst (λ (ms : List Summary). count ≤ length ms) ones_are le)
    (subst (λ s. AreBelow s count summaries) (to_z-of_z w64 second h)
    (subst (λ (ms : List Summary). AreBelow (to_z w64 (of_z w64 second)) count ms) ones_are all))
    (subst (λ (ms : List Summary). IsLastSummary (take count ms) summary) ones_are last)

pub fire_years-requires-clause-saving : goal.fire_years-requires-clause-saving
fire_years-requires-clause-saving c =
    let f : SFits w64 c.last_summary-summary.result.saving = search rules in
    c.in_ok-begin.ensures.saving ∙ to_z-of_z w64 c.last_summary-summary.result.saving f
    ∙ (taken c.requires.line c.line.view_is (search rules) (search rules) (search rules) c.ranges.start c.limit_of.ensures c.min-second.ensures.self_bound
    c.min-second.ensures.other_bound c.in_ok-add_years.ensures.are c.as_slice-summaries.ensures.value c.count_below-count.ensures.len
    c.count_below-count.ensures.below c.last_summary-summary.ensures).saving

pub fire_years-requires-clause-small : goal.fire_years-requires-clause-small
fire_years-requires-clause-small c =
    let f : SFits w64 c.last_summary-summary.result.saving = search rules in
    let serving = taken c.requires.line c.line.view_is (search rules) (search rules) (search rules) c.ranges.start c.limit_of.ensures c.min-second.ensures.self_bound
    c.min-second.ensures.other_bound c.in_ok-add_years.ensures.are c.as_slice-summaries.ensures.value c.count_below-count.ensures.len
    c.count_below-count.ensures.below c.last_summary-summary.ensures in
    record {
      fired = ap (list_all is_bounded_firing) c.in_ok-begin.ensures.fired ∙ serving.bounded;
      saving = ap are_small_seconds (c.in_ok-begin.ensures.saving ∙ to_z-of_z w64 c.last_summary-summary.result.saving f) ∙ serving.small;
    }

pub returns-clause-stand : goal.returns-clause-stand
returns-clause-stand c =
    let line = c.args.line.now in
    let serving = taken c.requires.line c.line.view_is (search rules) (search rules) (search rules) c.ranges.start c.limit_of.ensures c.min-second.ensures.self_bound
    c.min-second.ensures.other_bound c.in_ok-add_years.ensures.are c.as_slice-summaries.ensures.value c.count_below-count.ensures.len
    c.count_below-count.ensures.below c.last_summary-summary.ensures in
    let years = c.add_years.new.self.quiet + c.count_below-count.result in
    let start = Some c.args.start in
    let first : StandsFor start c.begin.new.self.fired.items (firings_of_years line.info.offset line.end line.rules years).0 =
    subst (λ (fs : List Firing). StandsFor start fs (firings_of_years line.info.offset line.end line.rules years).0)
    (sym c.in_ok-begin.ensures.fired) serving.stands in
    stand_on_ok c.fire_years.result start _ _ (IfOk-weaker c.fire_years.result _ _ (λ _ stands. stands start first) c.fire_years.ensures.stands)
    c.fire_years.ensures.saving c.fire_years.ensures.small
