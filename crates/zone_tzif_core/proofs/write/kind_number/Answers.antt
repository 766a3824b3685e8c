use Rattle.std.proofs.Common.{Bor}
use Rattle.zone_tzif_core.{specs.Shown.{kind_shown}, specs.Tzif.{is_same, kind_number}, specs.declared.values.Kind.{Kind}, proofs.PutLemmas.{number_found, number_not_found}}
use Rattle.zone_tzif_core.proofs.write.kind_number.Goals as goal

pub returns-in-Some : goal.returns-in-Some
unfolding kind_number
returns-in-Some c = number_found (is_same (kind_shown c.args.kind.now)) (λ (kind : Bor Kind). kind_shown kind.now) c.args.kinds.now c.in-Some.number c.in-Some.ensures.place

pub returns-in-None : goal.returns-in-None
returns-in-None c = absurd (number_not_found (is_same (kind_shown c.args.kind.now)) (λ (kind : Bor Kind). kind_shown kind.now) c.args.kinds.now c.in-None.ensures.place c.requires.among)
