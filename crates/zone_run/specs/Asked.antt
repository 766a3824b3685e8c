-- What is asked of a zone, and what a program answers.
use Rattle.std.specs.{Prelude.{◌≡◌, ℕ, List, Option, Some, None, Result, Ok, Err, Vec}, declared.alloc.Global.{Global}}
use Rattle.tz_lookup.specs.declared.set.FixedTimespanSet.{FixedTimespanSet}
use Rattle.zone_run.specs.declared.program.Refusal.{Refusal, TheVariants.{Cause, NoMemory}}

-- of the spans of a zone, the program's own cause to refuse them, if there is one, and the bytes that are due if not
pub record Asked : Type 0 where
  pub cause : FixedTimespanSet → Option (List ℕ)
  pub due : FixedTimespanSet → List ℕ

-- the due bytes come without a cause, and a cause is the zone's own; or memory ran out
abbrev pub Answers : Asked → FixedTimespanSet → Result (Vec ℕ Global) Refusal → Type 0
Answers asked set (Ok bytes) = (asked.cause set ≡ None) × (bytes.items ≡ asked.due set)
Answers asked set (Err (Cause cause)) = asked.cause set ≡ Some cause.now
Answers asked set (Err NoMemory) = Unit {0}
