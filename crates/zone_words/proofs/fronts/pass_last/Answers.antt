use Rattle.std.proofs.{Common.{arith, ◌≡◌, ◌∙◌, ◌++◌, ◌<◌, length, ap, sym}, lemmas.Bool.Decides.{nat_tests}, lemmas.Grind.{common_steps}}
use Rattle.zone_words.{proofs.FrontLemmas.{closed_short}, specs.Room.{room}}
use Rattle.zone_words.proofs.fronts.pass_last.Goals as goal

pub returns-clause-text : goal.returns-clause-text
returns-clause-text g c =
    let size : length c.as_bytes-front.result.now ≡ length c.args.held.now = ap length c.as_bytes-front.ensures.bytes in
    let some : 0 < length c.args.held.now = grind (arith, nat_tests, common_steps, size) in
    let e = closed_short room (g.R.Rewriter.rewritten c.args.rewriter.now) c.args.held.now some (omega (arith, size)) in
    let out = c.args.output.now.items in
    let f = g.R.Rewriter.rewritten c.args.rewriter.now in
    c.in_ok-rewrite.ensures.text ∙ ap (λ l. out ++ f l) c.as_bytes-front.ensures.bytes ∙ ap (λ l. out ++ l) (sym e)
