use Rattle.std.proofs.Common.{⊎_elim}
use Rattle.tz_posix.proofs.{NorthernLemmas.{northern_agrees, northern_compiled}, SouthernLemmas.{southern_agrees, southern_compiled}}
use Rattle.tz_posix.proofs.laws.two_yearly_rules_agree.Goals as goal

pub returns : goal.returns
returns c = record {
  compiled = λ rulesets zone q same. ⊎_elim
      (λ north. northern_compiled rulesets zone q same north)
      (λ south. southern_compiled rulesets zone q same south)
      same.order;
  northern = northern_agrees;
  southern = λ rulesets zone q same south t from.
      southern_agrees rulesets zone q same south t (record { begun = from.begun; not_over = from.not_over });
}
