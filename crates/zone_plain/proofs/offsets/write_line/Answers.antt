use Rattle.std.proofs.{Common.{◌∙◌, sym, map, refl, rules, to_z-of_z, FitsSigned, w64}, lemmas.Result.{IfOk-weaker}}
use Rattle.zone_table.specs.Values.{line_value}
use Rattle.zone_plain.{specs.Shown.{parts_shown, pair_shown, text_in}, proofs.OutLemmas.{out_total_at, out_under, out_of_same}}
use Rattle.zone_plain.proofs.offsets.write_line.Goals as goal

pub returns-in-Total : goal.returns-in-Total
returns-in-Total c =
    let fits : FitsSigned w64 c.in-Total.total = search rules in
    IfOk-weaker c.add_with_total.result _ _ (λ said added. out_of_same _ _ _ _ _ _ _ _ _ _ said c.line_in-line.ensures
    (out_total_at (map line_value c.args.lines.now) c.args.mark.now c.args.pairs.now c.args.made.now.items (text_in c.args.out.now) _ _
    (parts_shown c.in-Total.parts) _ c.in-Total.total said (to_z-of_z fits) (sym c.in-Total.ensures) refl refl added)) c.add_with_total.ensures

pub returns-else-not-are_said : goal.returns-else-not-are_said
returns-else-not-are_said c =
    IfOk-weaker c.add_under.result _ _ (λ said added. out_of_same _ _ _ _ _ _ _ _ _ _ said c.line_in-line.ensures
    (out_under (map line_value c.args.lines.now) c.args.mark.now c.args.pairs.now c.name_pair.new.pairs c.args.made.now.items c.name_pair.new.made.items
    (text_in c.args.out.now) _ _ (parts_shown c.in-Under.parts) (pair_shown c.in-Under.pair) _ _ said (sym c.in-Under.ensures)
    c.in_ok-name-in-Under.ensures.pairs (c.as_str.ensures.value ∙ c.in_ok-name-in-Under.ensures.name) c.in_ok-name-in-Under.ensures.rules
    c.if-not-are_said.false refl refl added)) c.add_under.ensures
