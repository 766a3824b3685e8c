-- Lines of logs, worked by hand.
use Rattle.std.{proofs.Common.{◌≡◌, refl, ℕ, List, [], ◌∷◌, ◌++◌, map, Option, Some, None}, specs.Prelude.{codes, ℤ, nat_eq, if◌then◌else◌}}
use lib.Signed.{mag}
use Rattle.zone_words.specs.{Numbers.{counted}, Pieces.{digit_at, two_at, four_at, date_at}, Readings.{digits_at, fraction_at, front_at, in_years, zoned_at, size_at, count_at, count_in}, Stamps.{unit_of, numbered, left_in}, Fronts.{rewritten_line, begun_line, closed_line}, Logs.{fields_on, field_place, replaced, shown_at}}

-- " a  bc", tab, "d "
line : List ℕ
line = 32 ∷ 97 ∷ 32 ∷ 32 ∷ 98 ∷ 99 ∷ 9 ∷ 100 ∷ 32 ∷ []

-- fields begin behind blanks; past the last one there is nothing, and 0 is the whole line
places : map (λ field. field_place field line) (0 ∷ 1 ∷ 2 ∷ 3 ∷ 4 ∷ 9 ∷ []) ≡ 0 ∷ 1 ∷ 4 ∷ 7 ∷ 9 ∷ 9 ∷ []
unfolding line fields_on
places = refl

-- two bytes from the second on become "XYZ"; where nothing is shown they stay
put : map (replaced (97 ∷ 98 ∷ 99 ∷ 100 ∷ []) 1 2) (Some (88 ∷ 89 ∷ 90 ∷ []) ∷ None ∷ []) ≡ (97 ∷ 88 ∷ 89 ∷ 90 ∷ 100 ∷ []) ∷ (97 ∷ 98 ∷ 99 ∷ 100 ∷ []) ∷ []
put = refl

says : ℤ → Option (List ℕ)
says t = if nat_eq (mag t) 0 then None else Some (codes "T")

-- the time in a field, a whole one alone, where something is shown for it and it ends in time
times : map (λ (row : ℕ × ℕ × List ℕ). shown_at row.0 says (field_place row.1 row.2) row.2) (
    (9, 0, codes "@5 GET") ∷ (2, 0, codes "@5 GET") ∷ (1, 0, codes "@5 GET") ∷ (9, 0, codes "@5x") ∷ (9, 0, codes "@0 x") ∷ (9, 0, codes " @5") ∷ (9, 1, codes " @5")
    ∷ (9, 2, codes "a @5,b") ∷ (9, 2, codes "@5 a") ∷ []
    ) ≡ codes "T GET" ∷ codes "T GET" ∷ codes "@5 GET" ∷ codes "@5x" ∷ codes "@0 x" ∷ codes " @5" ∷ codes " T" ∷ codes "a T,b" ∷ codes "@5 a" ∷ []
unfolding says fields_on counted digits_at fraction_at front_at date_at four_at two_at digit_at zoned_at in_years size_at count_at count_in unit_of numbered left_in
times = refl

-- marks a front by "<" and ">"
marked : List ℕ → List ℕ
marked front = 60 ∷ front ++ 62 ∷ []

-- of a line its first two bytes are the front; an open line goes out once these have come, and the end of the input ends it
fronts : map (rewritten_line 2 marked) ((97 ∷ []) ∷ (97 ∷ 98 ∷ []) ∷ (97 ∷ 98 ∷ 99 ∷ []) ∷ []) ≡ (60 ∷ 97 ∷ 62 ∷ []) ∷ (60 ∷ 97 ∷ 98 ∷ 62 ∷ []) ∷ (60 ∷ 97 ∷ 98 ∷ 62 ∷ 99 ∷ []) ∷ []
unfolding marked
fronts = refl

begun : map (begun_line 2 marked) ((97 ∷ []) ∷ (97 ∷ 98 ∷ []) ∷ []) ≡ [] ∷ (60 ∷ 97 ∷ 98 ∷ 62 ∷ []) ∷ []
unfolding marked
begun = refl

closed : map (closed_line 2 marked) ([] ∷ (97 ∷ []) ∷ (97 ∷ 98 ∷ []) ∷ []) ≡ [] ∷ (60 ∷ 97 ∷ 62 ∷ []) ∷ [] ∷ []
unfolding marked
closed = refl
