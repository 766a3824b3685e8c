use Rattle.std.proofs.Common.{◌≡◌, ℤ, Option, Some, None, option_map, refl, ap, ◌∙◌}
use Rattle.zone_list.specs.{Asks.{asks}, declared.window.Window.{Window}}
use Rattle.zone_list.proofs.program.WindowZoneProgram.read.Goals as goal

asked_is : (read : Option Window) → option_map (λ (window : Window). asks window.from window.to) read
    ≡ option_map (λ (asked : ℤ × ℤ). asks asked.0 asked.1) (option_map (λ (window : Window). (window.from, window.to)) read)
asked_is None = refl
asked_is (Some window) = refl

pub returns : goal.returns
returns c = asked_is c.of_words.result ∙ ap (option_map (λ (asked : ℤ × ℤ). asks asked.0 asked.1)) c.of_words.ensures
