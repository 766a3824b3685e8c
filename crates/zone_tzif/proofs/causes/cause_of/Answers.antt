use Rattle.std.proofs.{Common.{◌≡◌, ◌≤◌, length, map, sym, ap, ◌∙◌, arith}, lemmas.List.{length-map}}
use Rattle.zone_tzif_core.specs.Tzif.{are_names}
use Rattle.zone_tzif.{specs.Causes.{kind_in}, proofs.CauseLemmas.{times_refuse, kinds_refuse, names_refuse, none_refuses, names_are, same_times}}
use Rattle.zone_tzif.proofs.causes.cause_of.Goals as goal

pub returns-then-not-times : goal.returns-then-not-times
returns-then-not-times g c = λ footer offset line. times_refuse c.args.saves (g.S.SpanTable.seen c.args.set.now) footer (c.if-not-times.ensures ∙ sym (same_times c.args.saves (g.S.SpanTable.seen c.args.set.now)))

pub returns-in-Some : goal.returns-in-Some
returns-in-Some g c =
    let set = g.S.SpanTable.seen c.args.set.now in
    let kinds = map (kind_in c.args.saves set) c.as_slice.result.now in
    let long : length kinds ≡ length c.as_slice.result.now = length-map _ _ in
    let few : length kinds ≤ 256 = omega (arith, long, c.as_slice.ensures.fits) in
    λ footer offset line.
    none_refuses c.args.saves set footer (same_times c.args.saves set ∙ sym c.if-not-times.ensures) kinds (ap (map (kind_in c.args.saves set)) c.as_slice.ensures.value ∙ c.in-Some.ensures) few (c.if-are_names.ensures ∙ sym (ap are_names (names_are c.args.saves set c.as_slice.result.now))) offset line

pub returns-in-Some-2 : goal.returns-in-Some-2
returns-in-Some-2 g c =
    let set = g.S.SpanTable.seen c.args.set.now in
    let kinds = map (kind_in c.args.saves set) c.as_slice.result.now in
    let long : length kinds ≡ length c.as_slice.result.now = length-map _ _ in
    let few : length kinds ≤ 256 = omega (arith, long, c.as_slice.ensures.fits) in
    λ footer offset line.
    names_refuse c.args.saves set footer (same_times c.args.saves set ∙ sym c.if-not-times.ensures) kinds (ap (map (kind_in c.args.saves set)) c.as_slice.ensures.value ∙ c.in-Some.ensures) few (c.if-are_names.ensures ∙ sym (ap are_names (names_are c.args.saves set c.as_slice.result.now)))

pub returns-in-None : goal.returns-in-None
returns-in-None g c = λ footer offset line. kinds_refuse c.args.saves (g.S.SpanTable.seen c.args.set.now) footer (same_times c.args.saves (g.S.SpanTable.seen c.args.set.now) ∙ sym c.if-not-times.ensures) c.in-None.ensures
