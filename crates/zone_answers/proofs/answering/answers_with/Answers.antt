use Rattle.std.{proofs.Common.{sym, subst, ◌∙◌}, specs.Prelude.{All}, proofs.lemmas.Result.{MatchResult-weaker, IfOk-weaker, on_ok_weaker, err_from_is_err_and}}
use Rattle.zone_answers.{specs.ReadBack.{IsReadBack}, proofs.AnsweringLemmas.{lines_are, shown_are, fault_is, fault_first, told_along}}
use Rattle.zone_answers.proofs.answering.answers_with.Goals as goal

pub returns-in_err-table-clause-err : goal.returns-in_err-table-clause-err
returns-in_err-table-clause-err g c =
    let error = err_from_is_err_and c.from_residual.result c.from_residual.ensures.1 in
    rw (error.1, error.2) (fault_first g.Z.OpenedZone.read c.args.source.now c.args.requests.now _ c.in_err-table.ensures.err)

pub returns-clause-valid : goal.returns-clause-valid
returns-clause-valid g c =
    let same = fault_is g.Z.OpenedZone.read c.in_ok-table.table c.args.source.now c.args.requests.now c.in_ok-table.ensures.ok c.in_ok-table.ensures.table in
    on_ok_weaker c.answer_all.result (λ none. sym same ∙ none) c.answer_all.ensures.valid

pub returns-clause-read_back : goal.returns-clause-read_back
returns-clause-read_back g c =
    let same = shown_are g.Z.OpenedZone.read c.in_ok-table.table c.args.source.now c.args.requests.now c.in_ok-table.ensures.table in
    on_ok_weaker c.answer_all.result (λ back. subst (All IsReadBack) same back) c.answer_all.ensures.read_back

pub returns-clause-lines : goal.returns-clause-lines
returns-clause-lines g c =
    IfOk-weaker c.answer_all.result _ _
    (λ lines is. is ∙ lines_are g.Z.OpenedZone.read c.in_ok-table.table c.args.source.now c.args.requests.now c.in_ok-table.ensures.table)
    c.answer_all.ensures.lines

pub returns-clause-err : goal.returns-clause-err
returns-clause-err g c =
    let same = fault_is g.Z.OpenedZone.read c.in_ok-table.table c.args.source.now c.args.requests.now c.in_ok-table.ensures.ok c.in_ok-table.ensures.table in
    MatchResult-weaker c.answer_all.result c.answer_all.ensures.err (λ _ h. h)
    (λ error told. told_along error _ _ same told)
