use Rattle.std.proofs.{Common.{arith, ◌≡◌, ◌∙◌, ◌-◌, ◌++◌, length, take, drop, sym, ap}, Common.{append_assoc}, lemmas.List.{take_rest}}
use Rattle.zone_words.{proofs.FrontLemmas.{grown}, specs.Room.{room}}
use Rattle.zone_words.proofs.fronts.grow.Goals as goal

pub returns-clause-text : goal.returns-clause-text
returns-clause-text g c =
    let size : length c.as_bytes.result.now ≡ length c.args.held.now = ap length c.as_bytes.ensures.bytes in
    let free = ap (λ n. 4098 - n) size in
    let e = grown room (g.R.Rewriter.rewritten c.args.rewriter.now) c.args.held.now c.args.more.now (4098 - length c.as_bytes.result.now) free (omega arith) (omega arith) in
    let out = c.args.output.now.items in
    let f = g.R.Rewriter.rewritten c.args.rewriter.now in
    let free = 4098 - length c.as_bytes.result.now in
    let front = c.in_ok-rewrite.ensures.text ∙ ap (λ l. out ++ f l) (c.as_bytes-2.ensures.bytes ∙ c.add.ensures) in
    c.in_ok-extend_from_slice-2.ensures.items ∙ (λ i. front i ++ take_rest c.args.more.now free i)
    ∙ append_assoc out (f (take room (c.args.held.now ++ c.args.more.now))) (drop free c.args.more.now) ∙ ap (λ l. out ++ l) (sym e)
