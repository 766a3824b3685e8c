-- Why a source has no plain form, with the number of its line.
use Rattle.std.specs.Prelude.{◌≡◌, ℕ, List, ◌∷◌, Result, Ok, Err}
use Rattle.zone_table.specs.Values.{LineValue}
use Rattle.zone_plain_lines.specs.{declared.cause.PlainCause.{PlainCause}, declared.error.PlainFault.{PlainFault}}
use Rattle.zone_plain_lines.specs.declared.error.PlainFault.TheVariants as fault

-- a line's number, from 1 on, and why it is refused
pub record LineFault : Type 0 where
  pub number : ℕ
  pub cause : PlainCause

abbrev pub at : ℕ → PlainCause → LineFault
at number cause = record { number = number; cause = cause }

abbrev pub numbered : {A : Type 0} → ℕ → Result A PlainCause → Result A LineFault
numbered n (Ok x) = Ok x
numbered n (Err e) = Err (at n e)

-- a value before those of a list, if it is there
abbrev pub onto : {E : Type 0} → LineValue → Result (List LineValue) E → Result (List LineValue) E
onto v (Ok vs) = Ok (v ∷ vs)
onto v (Err e) = Err e

-- a line is refused, or too much would be written
pub data Refusal : Type 0 where
  bad_line : LineFault → Refusal
  too_long : Refusal

-- what is refused for a line
abbrev pub by_line : {A : Type 0} → Result A LineFault → Result A Refusal
by_line (Ok x) = Ok x
by_line (Err e) = Err (bad_line e)

-- the error tells why, or memory ran out
abbrev pub IsFaultOf : {A : Type 0} → Result A Refusal → PlainFault → Type 0
IsFaultOf found (fault.Line n c) = found ≡ Err (bad_line (at n c))
IsFaultOf found fault.TooLong = found ≡ Err too_long
IsFaultOf found fault.NoMemory = Unit {0}
