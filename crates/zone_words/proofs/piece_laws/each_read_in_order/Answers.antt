use Rattle.std.proofs.Common.{◌≡◌, sym, ap, ◌∙◌, ℕ, List, [], ◌∷◌, ◌++◌, append_assoc, append-nil}
use Rattle.zone_outside.specs.Exchanges.{Event, was_read, was_written, received, sent}
use Rattle.zone_words.specs.Runs.{InOrder}
use Rattle.zone_words.proofs.piece_laws.each_read_in_order.Goals as goal

at_read : (due : List ℕ → List ℕ) (fed written bytes : List ℕ) (before after : List Event) → InOrder due fed written (before ++ was_read bytes ∷ after) →
    written ++ sent before ≡ due (fed ++ received before)
at_read due fed written bytes [] after order = append-nil written ∙ order.0 ∙ ap due (sym (append-nil fed))
at_read due fed written bytes (was_read b ∷ before) after order =
    at_read due (fed ++ b) written bytes before after order.1 ∙ ap due (append_assoc fed b (received before))
at_read due fed written bytes (was_written b ∷ before) after order =
    sym (append_assoc written b (sent before)) ∙ at_read due fed (written ++ b) bytes before after order

pub returns : goal.returns
returns c = λ due before after bytes order. at_read due [] [] bytes before after order
