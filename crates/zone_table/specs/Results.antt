-- Readings that may fail, one after another: the first fault is the fault.
use Rattle.std.specs.Prelude.{Result, Ok, Err}

abbrev pub ◌>>=◌ : {A B E : Type 0} → Result A E → (A → Result B E) → Result B E
◌>>=◌ (Ok x) next = next x
◌>>=◌ (Err e) next = Err e
