-- Lines and answers, worked by hand; the limit is 3 in place of 4,096.
use Rattle.std.{proofs.Common.{◌≡◌, refl, ℕ, true, false, List, [], ◌∷◌, ◌++◌, map, nat_eq}, specs.List.{list_any}}
use Rattle.zone_words.specs.{Lines.{lines_behind, open_behind, whole_lines, open_line, lines_of}, Replies.{Replies, answer, fails, longest}, Room.{room}}

-- "ab", LF, LF, "c", CR, LF, "d"
input : List ℕ
input = 97 ∷ 98 ∷ 10 ∷ 10 ∷ 99 ∷ 13 ∷ 10 ∷ 100 ∷ []

whole : whole_lines input ≡ (97 ∷ 98 ∷ []) ∷ [] ∷ (99 ∷ 13 ∷ []) ∷ []
unfolding input lines_behind
whole = refl

open_yet : open_line input ≡ 100 ∷ []
unfolding input open_behind
open_yet = refl

-- a last line needs no LF, an LF at the end begins none, and an empty input has none
all_lines : map lines_of (input ∷ (97 ∷ 10 ∷ []) ∷ (10 ∷ []) ∷ [] ∷ [])
    ≡ ((97 ∷ 98 ∷ []) ∷ [] ∷ (99 ∷ 13 ∷ []) ∷ (100 ∷ []) ∷ []) ∷ ((97 ∷ []) ∷ []) ∷ ([] ∷ []) ∷ [] ∷ []
unfolding input lines_behind open_behind
all_lines = refl

-- says the request again, and "L" of a long one; an "x" is a fault
says : Replies
says = record { response = λ request. request ++ 33 ∷ []; is_fault = λ request. list_any (λ c. nat_eq c 120) request; to_long = 76 ∷ [] }

-- one CR is dropped; a request of three bytes is not too long, and one of four is
said : map (answer 3 says) ((97 ∷ 98 ∷ 99 ∷ []) ∷ (97 ∷ 98 ∷ 99 ∷ 13 ∷ []) ∷ (97 ∷ 98 ∷ 99 ∷ 100 ∷ []) ∷ (97 ∷ 98 ∷ 99 ∷ 13 ∷ 13 ∷ []) ∷ (97 ∷ 13 ∷ 13 ∷ []) ∷ [] ∷ [])
    ≡ (97 ∷ 98 ∷ 99 ∷ 33 ∷ []) ∷ (97 ∷ 98 ∷ 99 ∷ 33 ∷ []) ∷ (76 ∷ []) ∷ (76 ∷ []) ∷ (97 ∷ 13 ∷ 33 ∷ []) ∷ (33 ∷ []) ∷ []
unfolding says
said = refl

-- which are faults
faulty : map (fails 3 says) ((97 ∷ []) ∷ (120 ∷ []) ∷ (97 ∷ 98 ∷ 99 ∷ 100 ∷ []) ∷ (97 ∷ 98 ∷ 99 ∷ 13 ∷ []) ∷ []) ≡ false ∷ true ∷ true ∷ false ∷ []
unfolding says
faulty = refl

limits : (longest ≡ 4096) × (room ≡ 4098)
limits = (refl, refl)
