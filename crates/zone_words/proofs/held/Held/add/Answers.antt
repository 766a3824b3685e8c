use Rattle.std.proofs.{Common.{◌≡◌, ◌∙◌, ◌++◌, take, arith, length, ◌≤◌, min, ◌-◌, ap}, lemmas.Grind.{common_steps}}
use Rattle.zone_words.proofs.LineLemmas.{held_front}
use Rattle.zone_words.proofs.held.Held.add.Goals as goal

pub returns : goal.returns
returns c =
    let grown : c.extend_from_slice.new.self.items ≡ c.args.self.now ++ take c.min-count.result c.args.more.now = grind (arith, common_steps) in
    let within : length c.args.self.now ≤ 4098 = grind (arith, common_steps, c.self.invariant.within) in
    let count : c.min-count.result ≡ min (length c.args.more.now) (4098 - length c.args.self.now) = grind (arith, common_steps) in
    grown ∙ ap (λ n. c.args.self.now ++ take n c.args.more.now) count ∙ held_front c.args.self.now c.args.more.now 4098 within
