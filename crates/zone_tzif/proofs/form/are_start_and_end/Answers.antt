use Rattle.std.proofs.Common.{◌≡◌, suc, ◌+◌, pos, ap, ◌∙◌, arith}
use Rattle.tz_lookup.specs.Sets.{span_in}
use Rattle.zone_tzif.specs.Tried.{are_start_and_end}
use Rattle.zone_tzif.proofs.form.are_start_and_end.Goals as goal

pub returns : goal.returns
returns g c =
    let set = g.S.SpanTable.seen c.args.set.now in
    let after_start : c.args.start + 1 ≡ suc c.args.start = omega arith in
    let after_end : c.args.end + 1 ≡ suc c.args.end = omega arith in
    let saving = c.span.ensures ∙ ap (span_in set) after_start in
    let standard = c.span-2.ensures ∙ ap (span_in set) after_end in
    c.are_saving_and_standard.ensures ∙ (λ i. are_start_and_end (pos 0, saving i) (pos 0, standard i))
