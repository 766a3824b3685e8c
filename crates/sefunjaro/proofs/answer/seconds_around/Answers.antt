use Rattle.std.proofs.{Common.{◌≤ℤ◌, ◌<ℤ◌, SFits, rules, sym, ap, ◌∙◌, subst, w64, arith}, lemmas.Int.{to_z-of_z, ints}}
use Rattle.std.specs.Int.{int_max}
use Rattle.basics.specs.ComparisonLaws.{lt_le}
use Rattle.tz_lookup.specs.{Sets.{shifts_of}, Spans.{IsCut}}
use Rattle.sefunjaro.specs.Answers.{end_second, up_to_end}
use Rattle.sefunjaro.proofs.answer.seconds_around.Goals as goal

pub returns : goal.returns
returns g c =
    let set = g.S.SpanTable.seen c.args.set.now in
    let second = c.args.second in
    let same = to_z-of_z w64 second c.ranges.second in
    let begin_fits : SFits w64 c.span_begin.result = search rules in
    let from_fits : SFits w64 c.from_first-from.result = search rules in
    let first = to_z-of_z w64 c.args.first c.ranges.first in
    let begin = to_z-of_z w64 _ begin_fits in
    let end_fits : SFits w64 c.span_end.result = search rules in
    let until_fits : SFits w64 c.to_end-until.result = search rules in
    let from = to_z-of_z w64 _ from_fits in
    let end = to_z-of_z w64 _ end_fits in
    let until = to_z-of_z w64 _ until_fits in
    let cut = subst (IsCut (shifts_of set) c.span_in_force_at-span.result) same c.span_in_force_at-span.ensures in
    let lasts = c.span_end.ensures.lasts (omega (arith, ints, same, c.requires.early)) in
    let ends = subst (λ t. c.to_end-until.result ≤ℤ t) end c.to_end-until.ensures.second in
    record {
      late = omega (arith, ints, from, first, c.from_first-from.ensures.first);
      begun = subst (λ t. t ≤ℤ second) (sym from)
          (c.from_first-from.ensures.least second (omega (arith, ints, first, c.requires.first)) (omega (arith, ints, begin, same, c.span_begin.ensures.begun)));
      lasts = subst (λ t. second <ℤ t) (sym until) (c.to_end-until.ensures.greatest second (omega (arith, ints, end, same, lasts)) c.requires.early);
      early = subst (λ t. t ≤ℤ end_second) (sym until) c.to_end-until.ensures.end;
      throughout = λ u low high. record {
        within = cut.within;
        before = c.span_begin.ensures.before u (omega (arith, ints, begin, from, low, c.from_first-from.ensures.second));
        after = c.span_end.ensures.after u (lt_le u _ _ (subst (λ t. u <ℤ t) until high) ends);
      };
      from = from ∙ c.from_first-from.ensures.is ∙ (λ i. int_max (first i) ((begin ∙ c.span_begin.ensures.is) i));
      until = λ l. until ∙ c.to_end-until.ensures.is ∙ ap up_to_end (end ∙ c.span_end.ensures.next l);
      at_end = λ l. until ∙ c.to_end-until.ensures.is ∙ ap up_to_end (end ∙ c.span_end.ensures.last l);
    }
