-- Times at the front of a text, as logs have them.
use Rattle.std.specs.{Prelude.{◌≡◌, ℕ, ◌-◌, ◌*◌, Bool, true, ◌||◌, ◌&&◌, ◌==◌, not, nat_le, nat_lt, List, [], ◌∷◌, ◌++◌, length, Option, Some, None, Result, Ok, Err, if◌then◌else◌, ℤ, pos}, Prelude.{option_map, option_and_then, is_ok}, Option.{option_map_or}}
use Rattle.std.specs.{Result.{result_ok}, Char.{is_ascii_alphabetic, is_ascii_digit}}
use Rattle.basics.specs.Marks.{after_mark}
use Rattle.zone_words.specs.{Pieces.{run_of, after_run}, Readings.{count_at, count_in, count_of, zoned_at, zoned_in}, Spells.{AreDigits, SpellsInstant}, declared.text_fault.TextFault.{TextFault}, declared.text_fault.TextFault.TheVariants.{OutOfYears}}

-- a byte that can't follow a time: an ASCII letter, a digit, `.`, `:` or `-`
abbrev pub joins : ℕ → Bool
joins c = is_ascii_alphabetic c || (is_ascii_digit c || (c == 46 || (c == 58 || c == 45)))

-- the end of the text, or another byte
abbrev pub is_apart : List ℕ → Bool
is_apart [] = true
is_apart (c ∷ rest) = not (joins c)

-- the nanoseconds that a plain number of so many digits counts: seconds, milliseconds, microseconds or nanoseconds
unfoldable pub unit_of : ℕ → Option ℕ
unit_of digits =
    if nat_lt digits 9 then None
    else (if nat_lt digits 12 then Some 1000000000 else (if nat_lt digits 15 then Some 1000000
    else (if nat_lt digits 18 then Some 1000 else (if nat_lt digits 21 then Some 1 else None))))

-- from 1990-01-01 on and before 2060-01-01 UTC; a number of any other instant is seldom a time, and no date written without marks is one of these
abbrev pub is_near : ℕ → Bool
is_near nanos = nat_le 631152000000000000 nanos && nat_lt nanos 2840140800000000000

-- an instant, or a plain number of one near today
pub data SpellsStamp : List ℕ → ℤ → Type 0 where
  instant : {a : List ℕ} {t : ℤ} → SpellsInstant a t → SpellsStamp a t
  plain : {a : List ℕ} {n u : ℕ} → AreDigits a n → unit_of (length a) ≡ Some u → is_near (n * u) ≡ true → SpellsStamp a (pos (n * u))

-- a text of t stands at the front of a text, of so many bytes
pub data HasStamp : List ℕ → ℤ → ℕ → Type 0 where
  stamp : {a : List ℕ} {t : ℤ} (rest : List ℕ) → SpellsStamp a t → is_apart rest ≡ true → HasStamp (a ++ rest) t (length a)

-- the value of a form at the front, and how many bytes follow it
abbrev pub stamped : {F : Type 0} → Result (F × List ℕ) TextFault → (F → Result ℤ TextFault) → Option (ℤ × ℕ)
stamped (Ok read) value = if is_apart read.1 then option_map (λ t. (t, length read.1)) (result_ok (value read.0)) else None
stamped (Err fault) value = None

-- the instant so many nanoseconds after 1970, if it is near
abbrev pub near : ℕ → Result ℤ TextFault
near nanos = if is_near nanos then Ok (pos nanos) else Err OutOfYears

unfoldable pub numbered : List ℕ → Option (ℤ × ℕ)
numbered text =
    option_and_then (λ unit. stamped (Ok (count_of (run_of text) * unit, after_run text)) near) (unit_of (length (run_of text)))

-- a date stands where RFC 3339's form does, so that no plain number does
unfoldable pub left_in : List ℕ → Option (ℤ × ℕ)
left_in text = option_map_or (λ rest. stamped (count_at rest) count_in) (after_mark 64 text) (
    if is_ok (zoned_at text) then stamped (zoned_at text) zoned_in else numbered text
    )

-- the time at the front, and of how many bytes its text is
abbrev pub stamp_in : List ℕ → Option (ℤ × ℕ)
stamp_in text = option_map (λ x. (x.0, length text - x.1)) (left_in text)
