-- What the code's results tell.
use Rattle.std.specs.Prelude.{◌≡◌, Bool, true, false, option_map, Result, Ok, Err}
use Rattle.zone_words.specs.{Faults.{Fault, Reading}, declared.fault.WordCause.{WordCause}, declared.fault.WordCause.TheVariants.{BeforeFirst, NoMemory, Text, Year}, declared.fault.WordFault.{WordFault}}

abbrev pub fault_shown : WordFault → Fault
fault_shown fault = record { word = fault.word.now; more = option_map (λ word. word.now) fault.more; cause = fault.cause }

abbrev pub told : {A B : Type 0} → (A → B) → Result A WordFault → Reading B
told shown (Ok value) = Ok (shown value)
told shown (Err fault) = Err (fault_shown fault)

abbrev pub is_of_memory : WordCause → Bool
is_of_memory NoMemory = true
is_of_memory _ = false

-- whether a time can't be read or taken; else the words are in no form, or memory ran out
abbrev pub is_of_time : WordCause → Bool
is_of_time (Text fault) = true
is_of_time Year = true
is_of_time BeforeFirst = true
is_of_time _ = false

-- whether memory ran out
abbrev pub is_short : {A : Type 0} → Reading A → Bool
is_short (Ok value) = false
is_short (Err fault) = is_of_memory fault.cause

-- the result tells what is read, unless memory ran out
abbrev pub Reads : {A B : Type 0} → (A → B) → Result A WordFault → Reading B → Type 0
Reads shown result due = is_short (told shown result) ≡ false → told shown result ≡ due
