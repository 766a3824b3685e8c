-- Worked examples: seconds that clocks show, and their texts. At 1970-01-01 00:00:00 UTC clocks are set ahead from offset 0 to one hour.
use Rattle.std.{proofs.Common.{◌≡◌, cond, ℕ, ℤ, pos, negsuc, [], ◌∷◌, ◌++◌, Some, None, refl}, specs.Prelude.{int_lt}}
use Rattle.civil_base.specs.Layout.{day_part, time_part, zoned_text}
use Rattle.sefunjaro.specs.{Clocks.{clock_at}, Rooms.{filled, filled_from}, Shown.{clock_shown_at, clocks_of, line_of, textless_within, texts_of, unshown_place}}

abbrev jump : ℤ → ℤ
jump t = cond (int_lt t (pos 0)) (pos 0) (pos 3600)

abbrev west : ℤ → ℤ
west t = negsuc 17999

-- 23:59:59, and 01:00:00 a second later
at_the_jump : clocks_of jump (negsuc 0 ∷ pos 0 ∷ []) ≡ clock_at (negsuc 0) 86399000000000 ∷ clock_at (pos 0) 3600000000000 ∷ []
unfolding clock_shown_at day_part time_part
at_the_jump = refl

-- an hour before the year 10000 begins in UTC it does by clocks an hour ahead
local_year : unshown_place jump (pos 253402297199 ∷ pos 253402297200 ∷ []) ≡ Some 1
unfolding unshown_place
local_year = refl

-- clocks five hours behind show the last of 9999 then, but the second is none of these years in UTC
year_in_utc : unshown_place west (pos 253402300799 ∷ pos 253402300800 ∷ []) ≡ Some 1
unfolding unshown_place
year_in_utc = refl

first_years : unshown_place west (negsuc 377705098799 ∷ negsuc 377705098800 ∷ []) ≡ Some 1
unfolding unshown_place
first_years = refl

all_are_shown : unshown_place jump (pos 0 ∷ negsuc 377705116799 ∷ []) ≡ None
unfolding unshown_place
all_are_shown = refl

-- a line feed stands behind each text
two_texts : texts_of jump (negsuc 0 ∷ pos 0 ∷ [])
    ≡ (zoned_text (negsuc 999999999) (pos 0) ++ 10 ∷ []) ++ ((zoned_text (pos 0) (pos 3600) ++ 10 ∷ []) ++ [])
unfolding texts_of line_of
two_texts = refl

-- as many as are allowed, and one more
as_many : textless_within 2 jump (pos 0 ∷ pos 0 ∷ []) ≡ None
unfolding unshown_place
as_many = refl

one_too_many : textless_within 1 jump (pos 0 ∷ pos 0 ∷ []) ≡ Some 1
unfolding unshown_place
one_too_many = refl

-- items from a place on
from_a_place : filled_from {A = ℕ} 2 (7 ∷ 8 ∷ []) (1 ∷ 2 ∷ 3 ∷ 4 ∷ 5 ∷ []) ≡ 1 ∷ 2 ∷ 7 ∷ 8 ∷ 5 ∷ []
unfolding filled filled_from
from_a_place = refl

at_the_end : filled_from {A = ℕ} 2 (7 ∷ 8 ∷ []) (1 ∷ 2 ∷ 3 ∷ []) ≡ 1 ∷ 2 ∷ 7 ∷ []
unfolding filled filled_from
at_the_end = refl
