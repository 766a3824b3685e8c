-- Readings that may fail, one after another.
use Rattle.std.specs.{Prelude.{Option, option_and_then, Result}, Result.{result_map_both}}

-- the next value needs the one before
abbrev pub then_some : {A B : Type 0} → Option A → (A → Option B) → Option B
then_some value next = option_and_then next value

-- a result by what its value shows
abbrev pub shown_by : {A B E : Type 0} → (A → B) → Result A E → Result B E
shown_by shown result = result_map_both shown (λ e. e) result
