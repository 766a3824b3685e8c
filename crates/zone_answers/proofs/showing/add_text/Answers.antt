use Rattle.std.proofs.{Common.{◌++◌, ap, ◌∙◌}, lemmas.Result.{on_ok_weaker}}
use Rattle.tz_lookup.specs.InForce.{shown_of}
use Rattle.zone_answers.proofs.showing.add_text.Goals as goal

pub returns-clause-added : goal.returns-clause-added
unfolding shown_of
returns-clause-added c =
    on_ok_weaker c.add_bytes.result
    (λ added. added ∙ ap (λ t. c.args.text.now.items ++ t) c.write_zoned-end.ensures.text) c.add_bytes.ensures.added
