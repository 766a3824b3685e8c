-- The texts of values, each whole text cut into its parts. No part has to be told apart from the next: what follows a number
-- is `:`, `.`, `/`, `,`, a name or the end, so a number is the longest run of digits there. What follows a name is an offset,
-- `,` or the end, so a name without brackets is the longest run of letters there.
use Rattle.std.specs.{Prelude.{◌≡◌, ℕ, ◌<◌, ◌≤◌, ◌^◌, Bool, true, false, ◌&&◌, ◌||◌, ◌==◌, nat_eq, not, List, [], ◌∷◌, ◌++◌, length, Option, Some, None, ℤ, pos}, Char.{is_ascii_digit, is_ascii_alphabetic}, List.{list_all}, Str.Parse.{digits_value}}
use Rattle.tz_posix.specs.{Marks.{plus_sign, comma, minus_sign, dot, slash, colon, less, greater, letter_J, letter_M}, Seconds.{offset_seconds, time_seconds}, Values.{DstPart, TzValue, Value, short, expanded}, declared.time.Time.{Time}}
use Rattle.tz_posix.specs.declared.{time.Offset.{Offset}, date.Date.{Date}, date.Date.TheVariants.{J, N, M}, values.Rule.{Rule}}

-- nothing, or a text of the value
pub data Optional {V : Type 0} (Is : List ℕ → V → Type 0) : List ℕ → Option V → Type 0 where
  absent : Optional Is [] None
  present : {text : List ℕ} {value : V} → Is text value → Optional Is text (Some value)

-- one ASCII digit or more, which write a number below the power of two
pub record SpellsNumber (bits : ℕ) (text : List ℕ) (n : ℕ) : Type 0 where
  pub some : 0 < length text
  pub digits : list_all is_ascii_digit text ≡ true
  pub value : digits_value 10 text ≡ n
  pub fits : n < 2 ^ bits

-- `hh`, `hh:mm` or `hh:mm:ss`
pub data SpellsTime : List ℕ → Time → Type 0 where
  hours : {a : List ℕ} {h : ℕ} → SpellsNumber 8 a h → SpellsTime a (record { hh = h; mm = None; ss = None })
  minutes : {a b : List ℕ} {h m : ℕ} → SpellsNumber 8 a h → SpellsNumber 8 b m →
      SpellsTime (a ++ colon ∷ b) (record { hh = h; mm = Some m; ss = None })
  seconds : {a b c : List ℕ} {h m s : ℕ} → SpellsNumber 8 a h → SpellsNumber 8 b m → SpellsNumber 8 c s →
      SpellsTime (a ++ colon ∷ b ++ colon ∷ c) (record { hh = h; mm = Some m; ss = Some s })

-- a time, after `+`, `-` or nothing
pub data SpellsOffset : List ℕ → Offset → Type 0 where
  bare : {a : List ℕ} {t : Time} → SpellsTime a t → SpellsOffset a (record { positive = true; time = t })
  plus : {a : List ℕ} {t : Time} → SpellsTime a t → SpellsOffset (plus_sign ∷ a) (record { positive = true; time = t })
  minus : {a : List ℕ} {t : Time} → SpellsTime a t → SpellsOffset (minus_sign ∷ a) (record { positive = false; time = t })

-- a byte other than `<` and `>`
abbrev pub is_enclosed : ℕ → Bool
is_enclosed c = not (c == less) && not (c == greater)

-- `<name>`, or 3 to 16 ASCII letters
pub data SpellsName : List ℕ → List ℕ → Type 0 where
  enclosed : {name : List ℕ} → 0 < length name → list_all is_enclosed name ≡ true → SpellsName (less ∷ name ++ greater ∷ []) name
  letters : {name : List ℕ} → 3 ≤ length name → length name ≤ 16 → list_all is_ascii_alphabetic name ≡ true → SpellsName name name

-- `Jn`, `n` or `Mm.n.d`
pub data SpellsDate : List ℕ → Date → Type 0 where
  julian : {a : List ℕ} {n : ℕ} → SpellsNumber 16 a n → SpellsDate (letter_J ∷ a) (J n)
  counted : {a : List ℕ} {n : ℕ} → SpellsNumber 16 a n → SpellsDate a (N n)
  weekday : {a b c : List ℕ} {m n d : ℕ} → SpellsNumber 8 a m → SpellsNumber 8 b n → SpellsNumber 8 c d →
      SpellsDate (letter_M ∷ a ++ dot ∷ b ++ dot ∷ c) (M m n d)

-- the times that a rule may have: how they are written, how many hours they may have, either way, and their seconds from midnight
pub record TimeRange (T : Type 0) : Type 1 where
  pub IsTime : List ℕ → T → Type 0
  pub size : T → Time
  pub hours : ℕ
  pub seconds : T → ℤ

-- 0 to 23:59:59, as in POSIX TZ strings
abbrev pub day_times : TimeRange Time
day_times = record { IsTime = SpellsTime; size = λ time. time; hours = 23; seconds = λ time. pos (time_seconds time) }

-- -167:59:59 to 167:59:59, as in footers
abbrev pub signed_times : TimeRange Offset
signed_times = record { IsTime = SpellsOffset; size = λ offset. offset.time; hours = 167; seconds = offset_seconds }

-- a date, or a date, `/` and a time
pub data SpellsMoment {T : Type 0} (range : TimeRange T) : List ℕ → (Date × Option T) → Type 0 where
  date : {a : List ℕ} {d : Date} → SpellsDate a d → SpellsMoment range a (d, None)
  timed : {a b : List ℕ} {d : Date} {t : T} → SpellsDate a d → range.IsTime b t → SpellsMoment range (a ++ slash ∷ b) (d, Some t)

-- `,`, the start, `,` and the end
pub data SpellsRule {T : Type 0} (range : TimeRange T) : List ℕ → Rule T → Type 0 where
  rule : {a b : List ℕ} {s e : Date × Option T} → SpellsMoment range a s → SpellsMoment range b e →
      SpellsRule range (comma ∷ a ++ comma ∷ b) (record { start = s; end = e })

-- a name, maybe an offset, maybe a rule
pub data SpellsDst {T : Type 0} (range : TimeRange T) : List ℕ → DstPart T → Type 0 where
  dst : {a b c name : List ℕ} {o : Option Offset} {r : Option (Rule T)} → SpellsName a name → Optional SpellsOffset b o →
      Optional (SpellsRule range) c r → SpellsDst range (a ++ b ++ c) (record { name = name; offset = o; rule = r })

-- `:` and a name, or a name, an offset and maybe daylight saving time
pub data SpellsIn {T : Type 0} (range : TimeRange T) : List ℕ → Value T → Type 0 where
  short_form : {a name : List ℕ} → SpellsName a name → SpellsIn range (colon ∷ a) (short name)
  full_form : {a b c name : List ℕ} {o : Offset} {d : Option (DstPart T)} → SpellsName a name → SpellsOffset b o →
      Optional (SpellsDst range) c d → SpellsIn range (a ++ b ++ c) (expanded (record { name = name; offset = o }) d)

-- the value of a POSIX TZ string
abbrev pub Spells : List ℕ → TzValue → Type 0
Spells = SpellsIn day_times

-- whether the first byte of a text passes
abbrev pub begins : (ℕ → Bool) → List ℕ → Bool
begins p [] = false
begins p (c ∷ rest) = p c

-- a byte that could go on with a time or a moment
abbrev pub goes_on : ℕ → Bool
goes_on c = is_ascii_digit c || (nat_eq c colon || nat_eq c slash)

-- what may follow a name or a number doesn't go on with its run
pub record RunsAreLongest {T : Type 0} (range : TimeRange T) : Type 0 where
  pub after_standard_name : {a : List ℕ} {o : Offset} → SpellsOffset a o → (rest : List ℕ) → begins is_ascii_alphabetic (a ++ rest) ≡ false
  pub after_name : {a b : List ℕ} {o : Option Offset} {r : Option (Rule T)} → Optional SpellsOffset a o → Optional (SpellsRule range) b r →
      begins is_ascii_alphabetic (a ++ b) ≡ false
  pub after_standard_offset : {a : List ℕ} {d : Option (DstPart T)} → Optional (SpellsDst range) a d → begins is_ascii_digit a ≡ false
  pub after_offset : {a : List ℕ} {r : Option (Rule T)} → Optional (SpellsRule range) a r → begins is_ascii_digit a ≡ false
