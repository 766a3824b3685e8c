use Rattle.std.proofs.{Common.{ap, ◌≤ℤ◌, ◌<ℤ◌, SFits, rules, sym, ◌∙◌, subst, w32, w64, arith}, lemmas.Int.{ints, to_z-of_z}}
use Rattle.tz_lookup.{specs.{Sets.{schedule_of, shifts_of}, Spans.{IsCut}, CompactShown.{seen}, Stretches.{stretch_begin, stretch_end}}, proofs.StretchLemmas.{at_second, begins_there, ends_there}}
use Rattle.tz_lookup.proofs.stretch.stretch_under.Goals as goal

pub returns-clause-is : goal.returns-clause-is
returns-clause-is g c =
    let zone = schedule_of (seen c.args.set.now) in
    let span = c.span_of-span.result in
    let same = to_z-of_z w64 c.args.second c.ranges.second in
    let from_fits : SFits w64 c.span_begin-from.result = search rules in
    let until_fits : SFits w64 c.span_end-until.result = search rules in
    let offset_fits : SFits w32 c.whole_seconds-offset.result = search rules in
    let from = to_z-of_z w64 _ from_fits in
    let until = to_z-of_z w64 _ until_fits in
    let cut = subst (IsCut (shifts_of (seen c.args.set.now)) span) same c.span_of-span.ensures in
    let total = sym (to_z-of_z w32 _ offset_fits ∙ c.whole_seconds-offset.ensures.value ∙ c.offset_of.ensures) in
    record {
      begun = subst (λ t. t ≤ℤ c.args.second) (sym from) (subst (λ t. c.span_begin-from.result ≤ℤ t) same c.span_begin-from.ensures.begun);
      here = at_second zone span c.args.second cut ∙ total;
      throughout = λ u low high. at_second zone span u (record {
        within = cut.within;
        before = c.span_begin-from.ensures.before u (subst (λ t. t ≤ℤ u) from low);
        after = c.span_end-until.ensures.after u (subst (λ t. u <ℤ t) until high);
      }) ∙ total;
    }

pub returns-clause-lasts : goal.returns-clause-lasts
returns-clause-lasts g c = λ early.
    let same = to_z-of_z w64 c.args.second c.ranges.second in
    let until_fits : SFits w64 c.span_end-until.result = search rules in
    subst (λ t. c.args.second <ℤ t) (sym (to_z-of_z w64 _ until_fits))
    (subst (λ t. t <ℤ c.span_end-until.result) same (c.span_end-until.ensures.lasts (omega (arith, ints, same, early))))

pub returns-clause-from : goal.returns-clause-from
returns-clause-from g c =
    let zone = schedule_of (seen c.args.set.now) in
    let fits : SFits w64 c.span_begin-from.result = search rules in
    to_z-of_z w64 _ fits ∙ begins_there zone c.span_of-span.result _ c.span_begin-from.result c.span_of-span.ensures c.span_begin-from.ensures.is
    ∙ ap (stretch_begin zone) (to_z-of_z w64 c.args.second c.ranges.second)

pub returns-clause-until : goal.returns-clause-until
returns-clause-until g c =
    let zone = schedule_of (seen c.args.set.now) in
    let fits : SFits w64 c.span_end-until.result = search rules in
    to_z-of_z w64 _ fits ∙ ends_there zone c.span_of-span.result _ c.span_end-until.result c.span_of-span.ensures c.span_end-until.ensures.next c.span_end-until.ensures.last
    ∙ ap (stretch_end zone) (to_z-of_z w64 c.args.second c.ranges.second)
