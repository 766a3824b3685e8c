-- The parts at the front of a text, each with the rest, as the code reads them.
use Rattle.std.specs.{Prelude.{◌≡◌, ℕ, Bool, ◌++◌, true, false, ◌&&◌, List, [], ◌∷◌, length, take_while, drop, Option, Some, None, option_map, option_and_then, nat_le, nat_eq, if◌then◌else◌, ◌==◌}, Char.{is_ascii_digit, is_ascii_alphabetic}, List.{prefix_len}}
use Rattle.std.specs.{Option.{option_map_or}, Borrow.{Bor}}
use Rattle.basics.specs.{Marks.{after_mark}, Numbers.{value_in}}
use Rattle.tz_posix.specs.declared.{time.Time.{Time}, time.Offset.{Offset}, date.Date.{Date}, date.Date.TheVariants.{J, N, M}, values.Rule.{Rule}}
use Rattle.tz_posix.specs.{Marks.{plus_sign, comma, minus_sign, dot, slash, colon, less, greater, letter_J, letter_M}, Spells.{is_enclosed, TimeRange, begins, goes_on}, Values.{DstPart, Value, short, expanded}}

infixl 10 ◌>>=◌
abbrev pub ◌>>=◌ : {A B : Type 0} → Option A → (A → Option B) → Option B
o >>= f = option_and_then f o

-- a value and the rest, as what they show
abbrev pub read_as : {V W : Type 0} → (V → W) → Option (V × Bor (List ℕ)) → Option (W × List ℕ)
read_as view result = option_map (λ x. (view x.0, x.1.now)) result

-- what follows the longest run of bytes that pass at the front
abbrev pub after_run : (ℕ → Bool) → List ℕ → List ℕ
after_run p text = drop (prefix_len p text) text

unfoldable pub number_at : ℕ → List ℕ → Option (ℕ × List ℕ)
number_at bits text = do
  number ← value_in bits (take_while is_ascii_digit text)
  Some (number, after_run is_ascii_digit text)

-- `:` and a number, or nothing
unfoldable pub part_at : List ℕ → Option (Option ℕ × List ℕ)
part_at text = option_map_or (λ rest. do
  number ← number_at 8 rest
  Some (Some number.0, number.1)) (after_mark colon text) (Some (None, text))

-- seconds come after minutes alone
abbrev pub seconds_at : Option ℕ → List ℕ → Option (Option ℕ × List ℕ)
seconds_at None text = Some (None, text)
seconds_at (Some minutes) text = part_at text

unfoldable pub clock_time_at : List ℕ → Option (Time × List ℕ)
clock_time_at text = do
  hours ← number_at 8 text
  minutes ← part_at hours.1
  seconds ← seconds_at minutes.0 minutes.1
  Some (record { hh = hours.0; mm = minutes.0; ss = seconds.0 }, seconds.1)

unfoldable pub sign_at : List ℕ → Bool × List ℕ
sign_at text = option_map_or (λ rest. (false, rest)) (after_mark minus_sign text) (
  true,
  option_map_or (λ rest. rest) (after_mark plus_sign text) text,
)

unfoldable pub offset_at : List ℕ → Option (Offset × List ℕ)
offset_at text = do
  time ← clock_time_at (sign_at text).1
  Some (record { positive = (sign_at text).0; time = time.0 }, time.1)

unfoldable pub letters_at : List ℕ → Option (List ℕ × List ℕ)
letters_at text =
    let name = take_while is_ascii_alphabetic text in
    if nat_le 3 (length name) && nat_le (length name) 16 then Some (name, after_run is_ascii_alphabetic text) else None

unfoldable pub enclosed_at : List ℕ → Option (List ℕ × List ℕ)
enclosed_at text =
    if nat_eq (length (take_while is_enclosed text)) 0 then None
    else option_map (λ rest. (take_while is_enclosed text, rest)) (after_mark greater (after_run is_enclosed text))

unfoldable pub name_at : List ℕ → Option (List ℕ × List ℕ)
name_at text = option_map_or enclosed_at (after_mark less text) (letters_at text)

unfoldable pub weekday_at : List ℕ → Option (Date × List ℕ)
weekday_at text = do
  month ← number_at 8 text
  second ← after_mark dot month.1
  week ← number_at 8 second
  third ← after_mark dot week.1
  day ← number_at 8 third
  Some (M month.0 week.0 day.0, day.1)

-- a number of 16 bits alone, or after `J`
abbrev pub day_at : (ℕ → Date) → List ℕ → Option (Date × List ℕ)
day_at kind text = option_map (λ number. (kind number.0, number.1)) (number_at 16 text)

unfoldable pub date_at : List ℕ → Option (Date × List ℕ)
date_at text = option_map_or (day_at J) (after_mark letter_J text) (option_map_or weekday_at (after_mark letter_M text) (day_at N text))

-- from here on `time_at` reads the time of a rule
abbrev pub date_time_at : {T : Type 0} → (List ℕ → Option (T × List ℕ)) → Date → List ℕ → Option ((Date × Option T) × List ℕ)
date_time_at time_at date text = option_map (λ time. ((date, Some time.0), time.1)) (time_at text)

unfoldable pub moment_at : {T : Type 0} → (List ℕ → Option (T × List ℕ)) → List ℕ → Option ((Date × Option T) × List ℕ)
moment_at time_at text = do
  date ← date_at text
  option_map_or (date_time_at time_at date.0) (after_mark slash date.1) (Some ((date.0, None), date.1))

unfoldable pub rule_in : {T : Type 0} → (List ℕ → Option (T × List ℕ)) → List ℕ → Option (Rule T)
rule_in time_at text = do
  first ← after_mark comma text
  start ← moment_at time_at first
  second ← after_mark comma start.1
  end ← moment_at time_at second
  if nat_eq (length end.1) 0 then Some (record { start = start.0; end = end.0 }) else None

-- the end of the text, or a rule
abbrev pub is_over : List ℕ → Bool
is_over [] = true
is_over (c ∷ text) = c == comma

unfoldable pub own_offset_at : List ℕ → Option (Option Offset × List ℕ)
own_offset_at text =
    if is_over text then Some (None, text)
    else option_map (λ offset. (Some offset.0, offset.1)) (offset_at text)

unfoldable pub own_rule_in : {T : Type 0} → (List ℕ → Option (T × List ℕ)) → List ℕ → Option (Option (Rule T))
own_rule_in time_at text = if nat_eq (length text) 0 then Some None else option_map Some (rule_in time_at text)

unfoldable pub dst_in : {T : Type 0} → (List ℕ → Option (T × List ℕ)) → List ℕ → Option (Option (DstPart T))
dst_in time_at text = if nat_eq (length text) 0 then Some None else (do
  name ← name_at text
  offset ← own_offset_at name.1
  rule ← own_rule_in time_at offset.1
  Some (Some (record { name = name.0; offset = offset.0; rule = rule })))

unfoldable pub short_in : List ℕ → Option (List ℕ)
short_in text = do
  name ← name_at text
  if nat_eq (length name.1) 0 then Some name.0 else None

unfoldable pub expanded_in : {T : Type 0} → (List ℕ → Option (T × List ℕ)) → List ℕ → Option (Value T)
expanded_in time_at text = do
  name ← name_at text
  offset ← offset_at name.1
  dst ← dst_in time_at offset.1
  Some (expanded (record { name = name.0; offset = offset.0 }) dst)

unfoldable pub entry_in : {T : Type 0} → (List ℕ → Option (T × List ℕ)) → List ℕ → Option (Value T)
entry_in time_at text = option_map_or (λ rest. option_map short (short_in rest)) (after_mark colon text) (expanded_in time_at text)

-- a text of the value stands at the front, before the rest
pub data Takes {V : Type 0} (Is : List ℕ → V → Type 0) : List ℕ → V → List ℕ → Type 0 where
  takes : {front rest : List ℕ} {value : V} → Is front value → Takes Is (front ++ rest) value rest

-- the times of a range are read so: what is written is read, unless what follows could go on with it, and what is read is written
pub record AreRead {T : Type 0} (range : TimeRange T) (time_at : List ℕ → Option (T × List ℕ)) : Type 0 where
  pub again : {a : List ℕ} {t : T} → range.IsTime a t → (rest : List ℕ) → begins goes_on rest ≡ false → time_at (a ++ rest) ≡ Some (t, rest)
  pub found : (text : List ℕ) (y : T × List ℕ) → time_at text ≡ Some y → Takes range.IsTime text y.0 y.1
