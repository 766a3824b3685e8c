-- Worked examples: which instants may be asked, at the edges of the years.
use Rattle.std.proofs.Common.{◌≡◌, true, false, pos, negsuc, refl, [], ◌∷◌, Some, None}
use Rattle.sefunjaro_c.specs.{Lists.{far_place}, Times.{is_instant}}

-- 10000-01-01 04:30 UTC, when clocks in New York show 23:30 on the last day of 9999; 10000-01-02 01:59:59 UTC, the first instant that no
-- clock shows with a date of 9999, and a nanosecond before it
last_of_all : is_instant (pos 253402317000) 0 ∷ is_instant (pos 253402394399) 0 ∷ is_instant (pos 253402394398) 999999999 ∷ [] ≡ true ∷ false ∷ true ∷ []
last_of_all = refl

-- the first instant that some clock shows with a date of the year -9999, and the last before it
first_of_all : is_instant (negsuc 377705210398) 0 ∷ is_instant (negsuc 377705210399) 999999999 ∷ [] ≡ true ∷ false ∷ []
first_of_all = refl

-- a second has no more nanoseconds
whole_second : is_instant (pos 0) 1000000000 ≡ false
whole_second = refl

-- of a list the first second outside the years is told by its place: the year 10000 begins
far_second : far_place (pos 253402300799 ∷ pos 253402300800 ∷ negsuc 377705116800 ∷ []) ≡ Some 1
unfolding far_place
far_second = refl

none_is_far : far_place (negsuc 377705116799 ∷ pos 253402300799 ∷ []) ≡ None
unfolding far_place
none_is_far = refl
