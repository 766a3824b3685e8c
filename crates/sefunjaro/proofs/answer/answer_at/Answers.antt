use Rattle.std.proofs.{Common.{◌≡◌, ℤ, SFits, rules, refl, sym, ap, ◌∙◌, subst, w64}, lemmas.Int.{to_z-of_z}}
use Rattle.civil_base.specs.{DateTimes.{instant}, Instants.{local_at}, Ranges.{is_in_years}}
use Rattle.tz_lookup.specs.declared.set.FixedTimespanSet.{FixedTimespanSet}
use Rattle.sefunjaro.{specs.AnswerSteps.{IsAround}, specs.declared.answer.Around.{Around}, proofs.AnswerLemmas.{within}}
use Rattle.sefunjaro.proofs.answer.answer_at.Goals as goal

around_is : (set : FixedTimespanSet) (s t from first : ℤ) (around : Around) → s ≡ t → from ≡ first → IsAround from set s around → IsAround first set t around
around_is set s t from first around same is around_at = subst (λ f. IsAround f set t around) is (subst (λ u. IsAround from set u around) same around_at)

pub offset_of-requires-clause-within : goal.offset_of-requires-clause-within
offset_of-requires-clause-within g c = within _ _ _ _ c.seconds_around-around.ensures

pub returns-in-Some : goal.returns-in-Some
returns-in-Some g c =
    let set = g.S.SpanTable.seen c.args.set.now in
    let fits : SFits w64 c.second_of.result = search rules in
    let around = c.seconds_around-around in
    record {
      around = around.result;
      is_around = around_is set _ _ _ _ around.result (to_z-of_z w64 _ fits ∙ c.second_of.ensures.second) (to_z-of_z w64 _ c.ranges.first) around.ensures;
      shown = c.in-Some.shown;
      instant = c.in-Some.ensures.instant;
      offset = c.in-Some.ensures.offset ∙ c.offset_of.ensures;
      years = sym (c.in-Some.ensures.has ∙ ap (λ o. is_in_years (local_at (instant c.args.at.now) o)) c.offset_of.ensures);
      made = c.answer_by.ensures;
    }

pub returns-in-None : goal.returns-in-None
returns-in-None g c =
    let set = g.S.SpanTable.seen c.args.set.now in
    let fits : SFits w64 c.second_of.result = search rules in
    let around = c.seconds_around-around in (
      record {
        around = around.result;
        is_around = around_is set _ _ _ _ around.result (to_z-of_z w64 _ fits ∙ c.second_of.ensures.second) (to_z-of_z w64 _ c.ranges.first) around.ensures;
        years = sym (c.in-None.ensures.has ∙ ap (λ o. is_in_years (local_at (instant c.args.at.now) o)) c.offset_of.ensures);
      },
      refl,
    )
