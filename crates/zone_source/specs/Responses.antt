-- What was found to be due of a text, and what was written of it.
use Rattle.std.specs.Prelude.{◌≡◌, ℕ, List, [], ◌∷◌, ◌++◌, Option, None, Result, Ok, Err, IsSome, IsSomeAnd}
use Rattle.zone_outside.specs.{Outside.{Rose}, Seen.{OutputSeen}}
use Rattle.zone_source.specs.{Runs.{Writes}, declared.response.Response.{Response}, declared.response.Response.TheVariants.{Answer, Fault}, declared.running.Answered.{Answered}}
use Rattle.zone_source.specs.declared.running.Answered.TheVariants as answered

-- something is told, and the bytes are its line and a line feed
abbrev pub IsLineOf : {C : Type 0} → (C → List ℕ) → Option C → List ℕ → Type 0
IsLineOf line told bytes = IsSomeAnd told (λ c. bytes ≡ line c ++ 10 ∷ [])

-- what is due was found: the answer where there is no cause, and the line of the cause where there is one; or memory ran out
abbrev pub IsResponse : {C E : Type 0} → Option C → List ℕ → Result Response E → Type 0
IsResponse cause due (Ok (Answer bytes)) = (cause ≡ None) × (bytes.items ≡ due)
IsResponse cause due (Ok (Fault bytes)) = IsSome cause × (bytes.items ≡ due)
IsResponse cause due (Err e) = Unit {0}

-- what was written, by what is answered of it
abbrev pub Responds : Writes → List ℕ → List ℕ → OutputSeen → OutputSeen → Answered → Type 0
Responds writes text requests before now answered.Done = writes.lines text requests before now
Responds writes text requests before now answered.Fault = writes.fault text requests before now
Responds writes text requests before now answered.Failed = Rose before.faults now.faults × writes.part text requests before now
Responds writes text requests before now answered.NoMemory = now ≡ before
