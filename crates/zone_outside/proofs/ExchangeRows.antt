-- Calls of an exchange, worked by hand.
use Rattle.std.proofs.Common.{◌≡◌, refl, Bool, true, false, ℕ, List, [], ◌∷◌}
use Rattle.zone_outside.specs.{Exchanges.{Event, was_read, was_written, received, sent}, Marks.{events_of, size_read, size_written}}

marks : List (Bool × ℕ)
marks = (false, 2) ∷ (true, 1) ∷ (false, 0) ∷ (true, 2) ∷ []

calls : List Event
calls = was_read (1 ∷ 2 ∷ []) ∷ was_written (7 ∷ []) ∷ was_read [] ∷ was_written (8 ∷ 9 ∷ []) ∷ []

told : events_of marks (1 ∷ 2 ∷ 3 ∷ []) (7 ∷ 8 ∷ 9 ∷ []) ≡ calls
unfolding marks calls
told = refl

sizes : (size_read marks ≡ 2) × (size_written marks ≡ 3)
unfolding marks
sizes = (refl, refl)

moved : (received calls ≡ 1 ∷ 2 ∷ []) × (sent calls ≡ 7 ∷ 8 ∷ 9 ∷ [])
unfolding calls
moved = (refl, refl)
