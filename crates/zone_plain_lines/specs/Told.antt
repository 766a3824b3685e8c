-- What an error of one line tells.
use Rattle.std.specs.Prelude.{◌≡◌, ℕ, Result, Ok, Err}
use Rattle.zone_plain_lines.specs.{declared.cause.PlainCause.{PlainCause}, declared.error.{PlainFault.{PlainFault}, Refused.{Refused}, Refused.TheVariants.{Cause, NoMemory}}}
use Rattle.zone_plain_lines.specs.declared.error.PlainFault.TheVariants as fault

-- what is told of the nth line
abbrev pub fault_at : ℕ → Refused → PlainFault
fault_at n (Cause c) = fault.Line n c
fault_at n NoMemory = fault.NoMemory

-- why a value is refused, or memory ran out
abbrev pub IsRefused : {A : Type 0} → Result A PlainCause → Refused → Type 0
IsRefused found (Cause c) = found ≡ Err c
IsRefused found NoMemory = Unit {0}

-- the value, its cause, or want of memory
abbrev pub IsToldBy : {A B : Type 0} → (A → B) → Result A Refused → Result B PlainCause → Type 0
IsToldBy shown (Ok x) expected = expected ≡ Ok (shown x)
IsToldBy shown (Err refused) expected = IsRefused expected refused
