-- What the code's answers tell.
use Rattle.std.specs.Prelude.{◌≡◌, ℕ, List, [], ◌∷◌, ◌++◌, Bool, true, false, Result, Ok, Err}
use Rattle.zone_table.specs.{Values.{LineValue}, Results.{◌>>=◌}}
use Rattle.zone_plain_lines.specs.{PlainTexts.{plain_text}, LineFaults.{LineFault, Refusal, at}, Said.{is_said}, declared.error.PlainFault.{PlainFault}, Marks.{behind}, Renamed.{renamed, ruleset_of}, declared.cause.PlainCause.{PlainCause}}
use Rattle.zone_plain_lines.specs.declared.error.PlainFault.TheVariants as fault
use Rattle.zone_plain.specs.{LineValues.{line_meaning, is_open_after, named}, Plain.{if_short}, Settled.{settled}, Written.{written}, WrittenOut.{written_out}}

-- what is added of a line of a source of that mark, if it can be said
abbrev pub added_line : List ℕ → Bool → List ℕ → Result LineValue PlainCause
added_line mark is_open line = do
  meant ← line_meaning is_open line
  named mark meant

-- it is told whether the value can be said, and where it can its text was added
pub record IsAddedLine (old new : List (List ℕ)) (v : LineValue) (said : Bool) : Type 0 where
  pub told : said ≡ is_said v
  pub added : said ≡ true → new ≡ old ++ plain_text v ∷ []

-- a line was read and added, the name of whose ruleset begins with `_` or not, and after which a line of the zone has to follow or not
pub record IsReadLine (old new : List (List ℕ)) (mark : List ℕ) (is_open : Bool) (line : List ℕ) (is_marked is_open_now : Bool) : Type 0 where
  pub value : LineValue
  pub meant : line_meaning is_open line ≡ Ok value
  pub said : is_said (renamed mark value) ≡ true
  pub added : new ≡ old ++ plain_text (renamed mark value) ∷ []
  pub marked : is_marked ≡ false → behind 95 (ruleset_of value) ≡ []
  pub open_now : is_open_now ≡ is_open_after is_open value

-- the error tells the line's fault, or memory ran out
abbrev pub IsLineFault : {A : Type 0} → Result A LineFault → PlainFault → Type 0
IsLineFault found (fault.Line n c) = found ≡ Err (at n c)
IsLineFault found fault.TooLong = ⊥
IsLineFault found fault.NoMemory = Unit {0}

-- a head, and behind it what is written of a source of these values, or why nothing is
abbrev pub with_lines : List ℕ → List LineValue → Result (List ℕ) Refusal
with_lines head values = do
  linked ← settled values
  out ← written_out linked
  if_short (head ++ written out)
