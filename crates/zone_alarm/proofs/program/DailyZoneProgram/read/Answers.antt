use Rattle.std.proofs.Common.{◌≡◌, ℕ, ℤ, Option, Some, None, option_map, refl, ap, ◌∙◌}
use Rattle.zone_alarm.specs.{Asks.{asks}, declared.program.Daily.{Daily}}
use Rattle.zone_alarm.proofs.program.DailyZoneProgram.read.Goals as goal

asked_is : (read : Option Daily) → option_map (λ (daily : Daily). asks daily.start daily.days) read
    ≡ option_map (λ (daily : ℤ × ℕ). asks daily.0 daily.1) (option_map (λ (daily : Daily). (daily.start, daily.days)) read)
asked_is None = refl
asked_is (Some daily) = refl

pub returns : goal.returns
returns c = asked_is c.of_words.result ∙ ap (option_map (λ (daily : ℤ × ℕ). asks daily.0 daily.1)) c.of_words.ensures
