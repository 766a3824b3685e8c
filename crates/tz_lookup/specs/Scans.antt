-- The spans that contain a local second, by looking at each.
use Rattle.std.specs.{Prelude.{Option, Some, None, ℕ, zero, suc, List, [], ◌∷◌, ℤ, if◌then◌else◌}, Ordering.{is_eq}}
use Rattle.zone_spans.specs.Schedules.{Schedule}
use Rattle.tz_lookup.specs.Sets.{order_of}

-- of the n spans from k on
abbrev pub spans_from : Schedule → ℤ → ℕ → ℕ → List ℕ
spans_from zone x k zero = []
spans_from zone x k (suc n) = if is_eq (order_of zone k x) then k ∷ spans_from zone x (suc k) n else spans_from zone x (suc k) n

abbrev pub so_far : Option ℕ → List ℕ
so_far None = []
so_far (Some i) = i ∷ []
