use Rattle.std.proofs.{Common.{List, ◌∷◌, [], ◌++◌, to_z-of_z, ap, ◌∙◌}, lemmas.List.{append_assoc}, lemmas.Result.{on_ok_weaker}}
use Rattle.zone_tail.specs.{Tails.{rule_with}, declared.candidate.Candidate.{Candidate}, declared.candidate.Candidate.TheVariants.{Ruled}}
use Rattle.zone_tail.proofs.candidates.add_rules.Goals as goal

pub returns-in_ok-add_rule-in-Some : goal.returns-in_ok-add_rule-in-Some
returns-in_ok-add_rule-in-Some c =
    let one : List Candidate = Ruled (rule_with c.args.standard c.args.saving c.args.start.now c.args.ends.now.first) ∷ [] in
    let two : List Candidate = Ruled (rule_with c.args.standard c.args.saving c.args.start.now c.in-Some.end) ∷ [] in
    let first = rw (to_z-of_z c.ranges.standard, to_z-of_z c.ranges.saving) at c.in_ok-add_rule-in-Some.ensures in
    let second = rw (to_z-of_z c.ranges.standard, to_z-of_z c.ranges.saving) at c.add_rule-in-Some.ensures in
    rw c.in-Some.is (on_ok_weaker c.add_rule-in-Some.result (λ added. added ∙ ap (λ (l : List Candidate). l ++ two) first ∙ append_assoc c.args.list.now.items one two) second)
