use Rattle.std.proofs.{Common.{◌≡◌, true, ◌&&◌, ◌∷◌, ◌++◌, [], ap, sym, subst, ◌∙◌, arith, add-one, refl, length, map}, lemmas.List.{append_assoc, append-nil}, lemmas.List.Folds.{list_all-append}, lemmas.List.Sums.{AllPass-from_list_all}}
use Rattle.std.proofs.lemmas.Result.{err_from_is_err_and}
use Rattle.zone_table.specs.{LineBounds.{is_bounded_line}, Tables.{IsTableOf}}
use Rattle.zone_source.{specs.LinesLeft.{lines_left}, specs.Faults.{source_fault, first_line_refused}, specs.Zones.{source_value, values_of}, proofs.JoinLemmas.{first_later, told_first}}
use Rattle.zone_source.proofs.table.read_table.Goals as goal

pub loop-line-init : goal.loop-line-init
unfolding values_of source_fault
loop-line-init c =
    let lines = ap lines_left c.into_iter-line-iterator.ensures.into_iter_gives ∙ c.new-line-items.ensures.lines in
    rw lines (record { before = []; number = refl; stands = c.new-builder.ensures; bounded = refl; values = refl; refused = refl })

pub returns-in_err-join_line-clause-err : goal.returns-in_err-join_line-clause-err
returns-in_err-join_line-clause-err c =
    let error = err_from_is_err_and c.from_residual-in_err-join_line.result c.from_residual-in_err-join_line.ensures.1 in
    let joined = c.loop-line.invariant in
    let first = sym (ap (first_line_refused joined.before c.loop-line.number) c.in-Some.ensures.steps) ∙ joined.refused in
    rw (error.1, error.2)
    (told_first joined.before c.loop-line.number _ _ _ _ first (c.in_err-join_line.ensures.err joined.before joined.stands))

pub overflow_add-number : goal.overflow_add-number
overflow_add-number c = omega (arith, c.new-line-items.ensures.few, c.loop-line.invariant.number, ap length c.in-Some.ensures.steps)

pub loop-line-preserved : goal.loop-line-preserved
loop-line-preserved c =
    let joined = c.loop-line.invariant in
    let left = lines_left c.next.new.self in
    let line = c.in-Some.line.now in
    let takes = c.in_ok-join_line.ensures.ok in
    record {
      before = joined.before ++ source_value line ∷ [];
      number = omega (arith, joined.number, ap length c.in-Some.ensures.steps);
      stands = takes.stands joined.before joined.stands;
      bounded =
          list_all-append is_bounded_line joined.before (source_value line ∷ []) ∙ (λ i. joined.bounded i && (takes.bounded i && true));
      values = append_assoc joined.before (source_value line ∷ []) (map source_value left)
          ∙ ap (λ lines. joined.before ++ map source_value lines) (sym c.in-Some.ensures.steps) ∙ joined.values;
      refused = rw add-one
          (first_later joined.before c.loop-line.number line left (takes.accepted joined.before joined.stands)
          ∙ sym (ap (first_line_refused joined.before c.loop-line.number) c.in-Some.ensures.steps) ∙ joined.refused);
    }

pub returns-clause-ok : goal.returns-clause-ok
returns-clause-ok c =
    let joined = c.loop-line.invariant in
    sym joined.refused ∙ ap (first_line_refused joined.before c.loop-line.number) c.in-None.ensures.steps.0

pub returns-clause-table : goal.returns-clause-table
returns-clause-table c =
    let joined = c.loop-line.invariant in
    let all : joined.before ≡ values_of c.args.source.now =
    sym (append-nil joined.before) ∙ sym (ap (λ lines. joined.before ++ map source_value lines) c.in-None.ensures.steps.0)
    ∙ joined.values in
    subst (IsTableOf c.build.result) all (c.build.ensures.joined joined.before joined.stands)

pub returns-clause-bounded : goal.returns-clause-bounded
returns-clause-bounded c =
    let joined = c.loop-line.invariant in
    c.build.ensures.bounded joined.before joined.stands (AllPass-from_list_all is_bounded_line joined.before joined.bounded)
