use Rattle.std.proofs.Common.{rules, ◌≡◌, ◌≤◌, Some, None, ◌∙◌, arith, length}
use Rattle.zone_table.{specs.NameTree.{time_zone_of, time_zone}, proofs.SlashLemmas.{last_uncut, last_cut}}
use Rattle.zone_table.proofs.structure.time_zone.Goals as goal

pub returns-in_err-part : goal.returns-in_err-part
returns-in_err-part c =
    let uncut : time_zone_of c.args.name.now ≡ None = last_uncut c.args.name.now c.in_err-part.ensures.cases in
    search rules

pub returns : goal.returns
returns c =
    let cut = c.in_ok-part.ensures.cases in
    let within : cut.1 ≤ length c.args.name.now = omega (arith, cut.7) in
    (λ k. Some (cut.3 k, time_zone (cut.4 k))) ∙ last_cut c.args.name.now cut.0 cut.1 cut.2.0 cut.2.1 within
