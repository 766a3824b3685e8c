-- The pieces of which texts are written.
use Rattle.std.proofs.{Common.{◌≡◌, refl, arith, ℕ, ℤ, pos, ◌≤◌, List, [], ◌∷◌, ◌++◌, length, append_assoc, unsigned_abs, drop, take, get_or, ◌≢◌, ◌<ℤ◌, ◌≤ℤ◌}, lemmas.Int.{ints}}
use Rattle.basics.specs.Dates.{year_of, month_of, day_of}
use Rattle.civil_base.specs.{Clock.{hour_of, minute_of, second_of, nanosecond_of}, Layout.{offset_text, two_digits, four_digits, nine_digits, year_sign, date_digits, time_text, day_part, time_part, local_text}}

abbrev pub date_piece : ℕ → ℕ → ℕ → List ℕ
date_piece y m d = four_digits y ++ 45 ∷ two_digits m ++ 45 ∷ two_digits d

abbrev pub second_piece : ℕ → ℕ → ℕ → List ℕ
second_piece h m s = 32 ∷ two_digits h ++ 58 ∷ two_digits m ++ 58 ∷ two_digits s ++ 46 ∷ []

pub local_text-pieces : (x : ℤ) → local_text x ≡ ((year_sign (year_of (day_part x))
    ++ date_piece (unsigned_abs (year_of (day_part x))) (month_of (day_part x)) (day_of (day_part x)))
    ++ second_piece (hour_of (time_part x)) (minute_of (time_part x)) (second_of (time_part x)))
    ++ nine_digits (nanosecond_of (time_part x))
unfolding local_text date_digits time_text
local_text-pieces x = simp append_assoc

pub year_sign-length : (y : ℤ) → length (year_sign y) ≤ 1
unfolding year_sign
year_sign-length y = grind arith

pub year_sign-negative : (y : ℤ) → y <ℤ pos 0 → year_sign y ≡ 45 ∷ []
unfolding year_sign
year_sign-negative y h = grind (arith, ints)

pub year_sign-other : (y : ℤ) → pos 0 ≤ℤ y → year_sign y ≡ []
unfolding year_sign
year_sign-other y h = grind (arith, ints)

-- what is written piece by piece is the local text
pub local_text-written : (x : ℤ) (sign date second whole D S N : List ℕ) (Y : ℤ) (y m d t n : ℕ) → sign ≡ year_sign Y → date ≡ sign ++ D
    → second ≡ date ++ S → whole ≡ second ++ N → D ≡ date_piece y m d → S ≡ second_piece (hour_of t) (minute_of t) (second_of t)
    → N ≡ nine_digits n → y ≡ unsigned_abs Y → Y ≡ year_of (day_part x) → m ≡ month_of (day_part x) → d ≡ day_of (day_part x)
    → n ≡ nanosecond_of t → t ≡ time_part x → whole ≡ local_text x
local_text-written x sign date second whole D S N Y y m d t n e1 e2 e3 e4 dates seconds nanos size year month day nano time =
    rw (local_text-pieces x, e4, e3, e2, e1, dates, seconds, nanos, nano, time, size, year, month, day) refl

-- a local text without its sign
abbrev pub unsigned_text : ℤ → List ℕ
unsigned_text x = date_digits (day_part x) ++ 32 ∷ time_text (time_part x)

pub local_text-sign : (x : ℤ) → local_text x ≡ year_sign (year_of (day_part x)) ++ unsigned_text x
unfolding local_text
local_text-sign x = simp append_assoc

pub unsigned_text-shape : (x : ℤ) → (length (unsigned_text x) ≡ 29) × (take 10 (unsigned_text x) ≡ date_digits (day_part x)) ×
    (drop 10 (unsigned_text x) ≡ 32 ∷ time_text (time_part x)) × (get_or (unsigned_text x) 0 0 ≢ 45)
unfolding date_digits time_text
unsigned_text-shape x = (refl, refl, refl, (λ e. omega arith))

pub offset_text-length : (o : ℤ) → length (offset_text o) ≡ 9
unfolding offset_text
offset_text-length o = refl
