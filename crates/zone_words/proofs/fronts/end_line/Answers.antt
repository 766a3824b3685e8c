use Rattle.std.proofs.{Common.{arith, ◌≡◌, ◌∙◌, ◌<◌, [], ◌∷◌, ◌++◌, length, take, ap, append_assoc}, lemmas.Bool.Decides.{nat_tests}, lemmas.Grind.{common_steps}}
use Rattle.zone_words.{specs.{Fronts.{passed, closed_line}, Room.{room}}, proofs.FrontLemmas.{ended}}
use Rattle.zone_words.proofs.fronts.end_line.Goals as goal

pub returns-clause-text : goal.returns-clause-text
returns-clause-text g c =
    let size : length c.as_bytes.result.now ≡ length c.args.held.now = ap length c.as_bytes.ensures.bytes in
    let out = c.args.output.now.items in
    let f = g.R.Rewriter.rewritten c.args.rewriter.now in
    let held = c.args.held.now in
    let line = c.args.line.now in
    let some : 0 < length held = grind (arith, nat_tests, common_steps, size) in
    let last = c.in_ok-pass_last.ensures.text ∙ (λ i. c.in_ok-grow.ensures.text i ++ closed_line room (c.in_ok-grow.ensures.same i) (c.in_ok-grow.ensures.held i))
    ∙ append_assoc out (passed room f held line) (closed_line room f (take room (held ++ line))) in
    c.in_ok-push-2.ensures.items ∙ ap (λ l. l ++ 10 ∷ []) last
    ∙ append_assoc out (passed room f held line ++ closed_line room f (take room (held ++ line))) (10 ∷ []) ∙ ap (λ l. out ++ l) (ended room f held line some)
