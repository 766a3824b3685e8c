use Rattle.tz_lookup.specs.AnswerLaws.{all_of_two}
use Rattle.tz_lookup.proofs.fixed.FixedAllInstants.begin.Goals as goal

pub returns : goal.returns
returns c =
    let zone = c.args.self.now in
    all_of_two (λ _. zone.offset) c.args.local.now _ (zone.two c.args.local.now) c.assume_timezone.ensures.shown
