use Rattle.std.proofs.Common.{◌<◌, ◌≤◌, ◌∙◌, ◌++◌, map, length, arith, sym, ap}
use Rattle.zone_table.specs.Values.{line_value}
use Rattle.zone_plain.{specs.Plain.{if_short}, proofs.PlainLemmas.{all_written, past_limit, in_limit}}
use Rattle.zone_plain.proofs.whole.with_lines.Goals as goal

pub returns-then-as_slice-gt-LIMIT-clause-err : goal.returns-then-as_slice-gt-LIMIT-clause-err
returns-then-as_slice-gt-LIMIT-clause-err c =
    let bytes = c.in-Ok-extend_from_slice.ensures.items ∙ ap (λ body. c.args.head.items ++ body) c.as_slice-2.ensures.value in
    let long : 16777216 < length c.extend_from_slice.new.self.items = omega (arith, ap length c.as_slice-3.ensures.value, c.if-as_slice-gt-LIMIT.true) in
    all_written c.args.head.items _ _ _ c.in-Ok-write_out.body.items c.in-Ok.ensures.ok (ap (map line_value) c.as_slice.ensures.value) c.in-Ok-write_out.ensures.ok
    ∙ ap if_short (sym bytes) ∙ past_limit c.extend_from_slice.new.self.items long

pub returns-clause-ok : goal.returns-clause-ok
returns-clause-ok c =
    let bytes = c.in-Ok-extend_from_slice.ensures.items ∙ ap (λ body. c.args.head.items ++ body) c.as_slice-2.ensures.value in
    let short : length c.extend_from_slice.new.self.items ≤ 16777216 = omega (arith, ap length c.as_slice-3.ensures.value, c.if-as_slice-gt-LIMIT.false) in
    all_written c.args.head.items _ _ _ c.in-Ok-write_out.body.items c.in-Ok.ensures.ok (ap (map line_value) c.as_slice.ensures.value) c.in-Ok-write_out.ensures.ok
    ∙ ap if_short (sym bytes) ∙ in_limit c.extend_from_slice.new.self.items short
