use Rattle.std.proofs.Common.{rules, ◌∙◌, FitsSigned, w64, to_z-of_z}
use Rattle.zone_run.proofs.NumberLemmas.{number_read}
use Rattle.zone_run.proofs.number.number_in.Goals as goal

pub returns-in-Ok : goal.returns-in-Ok
returns-in-Ok c =
    let fits : FitsSigned w64 c.in-Ok.number = search rules in
    c.spelled.ensures
    ∙ rw (to_z-of_z fits) (rw c.in-Ok.is at (number_read c.args.most c.args.word.now c.parse.result c.requires c.parse.ensures.value.0))

pub returns-in-Err : goal.returns-in-Err
returns-in-Err c = rw c.in-Err.is at (number_read c.args.most c.args.word.now c.parse.result c.requires c.parse.ensures.value.0)
